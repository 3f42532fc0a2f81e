-- All entries of a history are right exactly where it is sound and its frames are the display's.
use Rattle.std.proofs.Common.{◌≡◌, ◌≤◌, ℕ, List, [], ◌∷◌, ◌++◌, length, ap, sym, subst, ◌∙◌, arith, append_assoc, append-nil}
use mathlib.Core.List.{IsPrefix}
use Rattle.vg_client_holds.specs.declared.setup.Setup.{Setup}
use Rattle.vg_scanout.specs.declared.scanout.Frame.{Frame}
use Rattle.vg_machine.specs.Entries.{Entry}
use Rattle.vg_machine.specs.Order.{AreAllowed, AreInOrder, Sound}
use Rattle.vg_machine.specs.Replay.{AgreesFrom, replay, replay_from}
use Rattle.vg_machine.proofs.ReplayLemmas.{replay-more}
use Rattle.vg_device.specs.State.{State}
use Rattle.vg_check.specs.Right.{AreRight, IsRight, IsWrongAt, frames_after}
use Rattle.vg_check.proofs.FrameLemmas.{frames-grow}

moved : (before : List Entry) (entry : Entry) (more : List Entry) → before ++ (entry ∷ more) ≡ (before ++ entry ∷ []) ++ more
moved before entry more = simp append_assoc

-- ---- right and sound

record Stand (setup : Setup) (before more : List Entry) : Type 0 where
  agrees : AgreesFrom (replay setup before) more
  order : AreInOrder before more
  allowed : AreAllowed setup before more

right-stand : (setup : Setup) (frames : List Frame) (before more : List Entry) → AreRight setup frames before more → Stand setup before more
right-stand setup frames before [] right = record { agrees = tt; order = tt; allowed = tt }
right-stand setup frames before (entry ∷ more) right =
    let rest = right-stand setup frames (before ++ entry ∷ []) more right.1 in
    record {
      agrees = (right.0.stands.reply, subst (λ (s : State). AgreesFrom s more) (replay-more setup before entry) rest.agrees);
      order = (right.0.stands.order, rest.order);
      allowed = (right.0.stands.allowed, rest.allowed);
    }

stand-right : (setup : Setup) (frames : List Frame) (before more : List Entry) → Stand setup before more → (replay_from (replay setup before) more).scanouts.frames ≡ frames → AreRight setup frames before more
stand-right setup frames before [] stand are = tt
stand-right setup frames before (entry ∷ more) stand are =
    let next : (replay_from (replay setup (before ++ entry ∷ [])) more).scanouts.frames ≡ frames =
    ap (λ (s : State). (replay_from s more).scanouts.frames) (replay-more setup before entry) ∙ are in (
      record {
        stands = record { order = stand.order.0; allowed = stand.allowed.0; reply = stand.agrees.0 };
        made = subst (λ (fs : List Frame). IsPrefix (frames_after setup (before ++ entry ∷ [])) fs) next (frames-grow setup (before ++ entry ∷ []) more);
      },
      stand-right setup frames (before ++ entry ∷ []) more
          (record { agrees = subst (λ (s : State). AgreesFrom s more) (sym (replay-more setup before entry)) stand.agrees.1; order = stand.order.1; allowed = stand.allowed.1 }) next,
    )

pub right-sound : (setup : Setup) (frames : List Frame) (H : List Entry) → AreRight setup frames [] H → Sound setup H
right-sound setup frames H right = let stand = right-stand setup frames [] H right in record { agrees = stand.agrees; order = stand.order; allowed = stand.allowed }

pub sound-right : (setup : Setup) (frames : List Frame) (H : List Entry) → Sound setup H → frames_after setup H ≡ frames → AreRight setup frames [] H
sound-right setup frames H sound are = stand-right setup frames [] H (record { agrees = sound.agrees; order = sound.order; allowed = sound.allowed }) are

-- ---- one is wrong first

not-shorter : (setup : Setup) (frames : List Frame) (before front : List Entry) (entry : Entry) (rest other : List Entry) (next : Entry) (more : List Entry)
    → front ++ (entry ∷ rest) ≡ other ++ (next ∷ more) → AreRight setup frames before other → (IsRight setup frames (before ++ front) entry → ⊥) → length other ≤ length front
not-shorter setup frames before front entry rest [] next more are right wrong = omega arith
not-shorter setup frames before [] entry rest (x ∷ xs) next more are right wrong =
    let all : entry ∷ rest ≡ x ∷ (xs ++ (next ∷ more)) = are in
    let same : entry ≡ x = cc all in
    absurd (wrong (subst (IsRight setup frames (before ++ [])) (sym same) (subst (λ (es : List Entry). IsRight setup frames es x) (sym (append-nil before)) right.0)))
not-shorter setup frames before (y ∷ ys) entry rest (x ∷ xs) next more are right wrong =
    let all : y ∷ (ys ++ (entry ∷ rest)) ≡ x ∷ (xs ++ (next ∷ more)) = are in
    let same : y ≡ x = cc all in
    let tail : ys ++ (entry ∷ rest) ≡ xs ++ (next ∷ more) = cc all in
    let front : before ++ (y ∷ ys) ≡ (before ++ x ∷ []) ++ ys = moved before y ys ∙ ap (λ (z : Entry). (before ++ z ∷ []) ++ ys) same in
    let rest' = not-shorter setup frames (before ++ x ∷ []) ys entry rest xs next more tail right.1 (subst (λ (es : List Entry). IsRight setup frames es entry → ⊥) front wrong) in
    omega (arith, rest')

pub wrong-once : (setup : Setup) (frames : List Frame) (H : List Entry) (n m : ℕ) → IsWrongAt setup frames H n → IsWrongAt setup frames H m → n ≡ m
wrong-once setup frames H n m one other =
    let short = not-shorter setup frames [] one.front one.entry one.rest other.front other.entry other.rest (sym one.place ∙ other.place) other.right one.wrong in
    let long = not-shorter setup frames [] other.front other.entry other.rest one.front one.entry one.rest (sym other.place ∙ one.place) one.right other.wrong in
    let first = one.number in
    let second = other.number in
    omega (arith, short, long, first, second)

right-at : (setup : Setup) (frames : List Frame) (before front : List Entry) (entry : Entry) (rest : List Entry) → AreRight setup frames before (front ++ (entry ∷ rest)) → IsRight setup frames (before ++ front) entry
right-at setup frames before [] entry rest right = subst (λ (es : List Entry). IsRight setup frames es entry) (sym (append-nil before)) right.0
right-at setup frames before (x ∷ xs) entry rest right =
    subst (λ (es : List Entry). IsRight setup frames es entry) (sym (moved before x xs)) (right-at setup frames (before ++ x ∷ []) xs entry rest right.1)

pub right-or-wrong : (setup : Setup) (frames : List Frame) (H : List Entry) (n : ℕ) → AreRight setup frames [] H → IsWrongAt setup frames H n → ⊥
right-or-wrong setup frames H n right is =
    is.wrong (right-at setup frames [] is.front is.entry is.rest (subst (λ (es : List Entry). AreRight setup frames [] es) is.place right))

-- ---- one more is right

right-more : (setup : Setup) (frames : List Frame) (before H : List Entry) (entry : Entry) → AreRight setup frames before H → IsRight setup frames (before ++ H) entry → AreRight setup frames before (H ++ entry ∷ [])
right-more setup frames before [] entry right here = (subst (λ (es : List Entry). IsRight setup frames es entry) (append-nil before) here, tt)
right-more setup frames before (x ∷ xs) entry right here =
    (right.0, right-more setup frames (before ++ x ∷ []) xs entry right.1 (subst (λ (es : List Entry). IsRight setup frames es entry) (moved before x xs) here))

pub one-more-right : (setup : Setup) (frames : List Frame) (H : List Entry) (entry : Entry) → AreRight setup frames [] H → IsRight setup frames H entry → AreRight setup frames [] (H ++ entry ∷ [])
one-more-right setup frames H entry right here = right-more setup frames [] H entry right here
