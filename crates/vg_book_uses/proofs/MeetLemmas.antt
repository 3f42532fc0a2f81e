-- What is known of notes that clients leave for each other.
use Rattle.std.proofs.Common.{◌≡◌, ◌≢◌, ℕ, ◌+◌, List, [], ◌∷◌, ap, sym, subst, ◌∙◌}
use Rattle.std.specs.Prelude.{Result, Ok, Err, IfOk}
use mathlib.Core.List.{IsPrefix}
use Rattle.vg_history.specs.declared.machine.Machine.{Ghosts}
use Rattle.vg_history.specs.declared.entry.Entry.TheVariants as entries
use Rattle.vg_history.specs.Lists.{Has}
use Rattle.vg_history.proofs.ListLemmas.{has_last, has_prefix, prefix_more, prefix_self, prefix_trans}
use Rattle.std.specs.declared.alloc.AllocError.{AllocError}
use Rattle.vg_book.specs.Tokens.{Acted, Watched}
use Rattle.vg_jobs.specs.Jobs.{AllGive}
use Rattle.vg_book_uses.specs.declared.counter.Act.{Act}
use Rattle.vg_book_uses.specs.declared.counter.Act.TheVariants.{Add}
use Rattle.vg_book_uses.specs.declared.counter.Counter.{Counter}
use Rattle.vg_book_uses.specs.declared.counter.Request.{Request}
use Rattle.vg_book_uses.specs.Adding.{Cl, E}
use Rattle.vg_book_uses.specs.Sharing.{HasTalked, MayTalk}
use Rattle.vg_book_uses.specs.Meeting.{HasCall, HasMet}
use Rattle.vg_book_uses.proofs.ShareLemmas.{talked_none, talked_act}

pub call_more : (client call : ℕ) (xs ys : List E) → IsPrefix xs ys → HasCall client call xs → HasCall client call ys
call_more client call xs ys p h = (h.0, has_prefix xs ys h.0 p h.1, h.2, h.3)

module _ (g : Ghosts Counter Counter Act ℕ Request ℕ ℕ Request) where
  pub acted_call : (c d : Cl) (act : Act) (number reply : ℕ) → Acted g c act d number reply → HasCall d.account.number d.account.used d.seen
  acted_call c d act number reply h =
      let e = entries.Act c.account.number (c.account.used + 1) act reply in
      (e, subst (λ (xs : List E). Has xs e) (sym h.seen) (has_last h.log e), sym (ap (λ a. a.number) h.account), sym (ap (λ a. a.used) h.account))

  acted_more : (c d : Cl) (act : Act) (number reply : ℕ) → Acted g c act d number reply → IsPrefix c.seen d.seen
  acted_more c d act number reply h = prefix_trans c.seen h.log d.seen h.more (subst (λ xs. IsPrefix h.log xs) (sym h.seen) (prefix_more h.log h.log _ (prefix_self h.log)))

  talked_watch : (c d e : Cl) (n : ℕ) → HasTalked g c n d → Watched g d e → HasTalked g c n e
  talked_watch c d e n h w = record {
    number = ap (λ a. a.number) w.account ∙ h.number;
    opening = ap (λ a. a.opening) w.account ∙ h.opening;
    holds = ap (λ a. a.holds) w.account ∙ h.holds;
    used = ap (λ a. a.used) w.account ∙ h.used;
    out = ap (λ a. a.out) w.account ∙ h.out;
    more = prefix_trans c.seen d.seen e.seen h.more w.more;
    start = w.start ∙ h.start;
    is_known = record { history = w.history; known = w.known };
  }

  -- A client acts, meets a note of another, and acts again.
  pub has_met : ((h r : ℕ) → g.update h (Add 1) r ≡ h) → (a b c d e : Cl) (n m r s other call : ℕ) → MayTalk g a → Acted g a (Add 1) b n r → c ≡ b → Watched g c d → HasCall other call d.seen → other ≢ c.account.number → Acted g d (Add 1) e m s → HasMet g a e
  has_met keeps a b c d e n m r s other call may first is watched heard apart last =
      let one = talked_act g keeps a a b 0 n r (talked_none g a may) first in
      let two = talked_watch a c d 1 (subst (λ x. HasTalked g a 1 x) (sym is) one) watched in
      record {
        talked = talked_act g keeps a d e 1 m s two last;
        other = other;
        call = call;
        apart = λ same. apart (same ∙ sym (ap (λ x. x.account.number) is ∙ one.number));
        heard = call_more other call d.seen e.seen (acted_more d e (Add 1) m s last) heard;
      }

  module _ {X : Type 0} (client : X → Cl) where
    met_talked : (c : Cl) (r : Result Cl AllocError) → IfOk r (λ d. HasMet g c d) → IfOk r (λ d. HasTalked g c 2 d)
    met_talked c (Ok d) h = h.talked
    met_talked c (Err e) h = tt

    pub all_talked : (js : List X) (ds : List (Result Cl AllocError)) → AllGive (λ j r. IfOk r (λ c. HasMet g (client j) c)) js ds → AllGive (λ j r. IfOk r (λ c. HasTalked g (client j) 2 c)) js ds
    all_talked [] [] h = tt
    all_talked [] (d ∷ ds) h = absurd h
    all_talked (j ∷ js) [] h = absurd h
    all_talked (j ∷ js) (d ∷ ds) h = (met_talked (client j) d h.0, all_talked js ds h.1)
