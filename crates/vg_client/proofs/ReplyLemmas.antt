-- The pages of a reply are few.
use Rattle.std.proofs.Common.{◌≡◌, ◌≤◌, sym, subst, arith, ℕ, Bool, true, false, cond, List, length, take, Option, Some, None}
use Rattle.std.proofs.lemmas.List.{length-take}
use Rattle.vg_client_holds.specs.declared.act.Act.{Act}
use Rattle.vg_client_holds.specs.declared.act.Act.TheVariants as acts
use Rattle.vg_client_holds.specs.declared.act.ActReply.{ActReply}
use Rattle.vg_client_holds.specs.declared.act.ActReply.TheVariants as act_replies
use Rattle.vg_share.specs.declared.share.ShareRefusal.{ShareRefusal}
use Rattle.vg_device.specs.ActStep.{act_step, effect_of, replied_by}
use Rattle.vg_share.specs.Cells.{pages_of}
use Rattle.vg_share.specs.Share.{has_holder, released, reserve_refusal}
use Rattle.vg_device.specs.State.{State, counted}
use Rattle.vg_pages.specs.Memory.{free_pages}
use Rattle.vg_client.specs.declared.given.Given.{Given}
use Rattle.vg_client.specs.declared.given.Given.TheVariants as givens
use Rattle.vg_client.specs.Callers.{HasFewPages, IsFewPages}
use Rattle.vg_tasks.specs.Fits.{HasFewBytes}
use Rattle.vg_limits.specs.Limits.{version_2}

few-replied : (refusal : Option ShareRefusal) (state next : State) (reply : ActReply) → HasFewPages reply → HasFewPages (replied_by refusal state next reply).1
few-replied None state next reply few = few
few-replied (Some refusal) state next reply few = tt

few-released : (b : Bool) → HasFewPages (cond b act_replies.Kept act_replies.Last)
few-released true = tt
few-released false = tt

few-taken : (bytes : ℕ) (xs : List ℕ) → bytes ≤ version_2.bytes → length (take (pages_of bytes) xs) ≤ 2025
few-taken bytes xs small = let is = length-take (pages_of bytes) xs in omega (arith, is, small)

few-effect : (state : State) (client : ℕ) (act : Act) → HasFewBytes act → HasFewPages (effect_of state client act).1
few-effect state client (acts.Reserve width height format bytes) few = few-replied (reserve_refusal bytes state.memory) state _ _ (few-taken bytes (free_pages state.memory.taken) few)
few-effect state client (acts.Store key offset bytes times) few = few-replied _ state _ act_replies.Ok tt
few-effect state client (acts.Load key offset n) few = few-replied _ state _ (act_replies.Bytes _) tt
few-effect state client (acts.Export key) few = few-replied _ state _ (act_replies.Exported _) tt
few-effect state client (acts.Import token) few = few-replied _ state _ (act_replies.Imported _ _ _) tt
few-effect state client (acts.Release key) few = few-replied _ state _ _ (few-released (has_holder key (released client key state.share)))
few-effect state client (acts.Free key) few = few-replied _ state _ act_replies.Ok tt
few-effect state client (acts.Take scanout) few = few-replied _ state _ act_replies.Ok tt
few-effect state client (acts.Drop scanout) few = few-replied _ state _ act_replies.Ok tt
few-effect state client act few = tt

few-given : (told : Bool) (reply : ActReply) → HasFewPages reply → IsFewPages (cond told (givens.Denied reply) (givens.Act reply))
few-given true reply few = tt
few-given false reply few = few

-- what is given for an act has few pages
pub few-act : (state : State) (client : ℕ) (act : Act) (reply : ActReply) (told : Bool) (given : Given) → HasFewBytes act → reply ≡ (act_step state client act).1 → given ≡ cond told (givens.Denied reply) (givens.Act reply) → IsFewPages given
few-act state client act reply told given few is made =
    let pages : HasFewPages reply = subst HasFewPages (sym is) (few-effect (counted state) client act few) in
    subst IsFewPages (sym made) (few-given told reply pages)
