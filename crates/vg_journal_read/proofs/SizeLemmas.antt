-- How far a reader is, and how far one piece more brings it.
use Rattle.std.proofs.Common.{◌≡◌, ◌⊎◌, inl, inr, ℕ, ◌+◌, ◌-◌, ◌≤◌, ◌==◌, ◌||◌, not, nat_lt, nat_le, Bool, true, false, if◌then◌else◌, List, [], ◌∷◌, length, Some, option_map, arith, refl, ap, subst, length-append}
use Rattle.vg_laws.proofs.Options.{some_is, or_parts}
use Rattle.vg_client_holds.specs.Setup.{parties}
use Rattle.vg_line_words.specs.Words.{parts_at}
use Rattle.vg_act_lines.proofs.PartLaws.{map_parts, no_more, then_parts}
use Rattle.vg_journal_lines.specs.declared.head.Version.{Version}
use Rattle.vg_journal_lines.specs.declared.head.Version.TheVariants.{One, Two}
use Rattle.vg_journal_lines.specs.Versions.{limits_of}
use Rattle.vg_journal_lines.specs.declared.head.Feature.{Feature}
use Rattle.vg_journal_lines.specs.declared.head.Feature.TheVariants.{Edid, Uuid, Blob, Context}
use Rattle.vg_journal_lines.specs.declared.counts.FrameHead.{FrameHead}
use Rattle.vg_journal_lines.specs.declared.state.LeftOut.{LeftOut}
use Rattle.vg_journal_lines.specs.declared.state.Stage.{Stage}
use Rattle.vg_journal_lines.specs.declared.state.Stage.TheVariants as stages
use Rattle.vg_journal_lines.specs.declared.state.State.{State}
use Rattle.vg_journal_lines.specs.Read.{clients_of, display_of, frame_of, frames_of, is_end, is_host, is_queues, memory_of, pixels_of, rings_of, title_of, without_of}
use Rattle.vg_journal_lines.specs.Entries.{entry_of}
use Rattle.vg_journal_lines.specs.States.{AFrame, Next, Nothing, and_out, clients_step, display_step, end_step, entries_step, entry_step, frame_with, frames_step, head_step, host_step, is_behind, memory_step, piece_step, pixels_step, queues_step, rings_step, title_step, with_clients, with_counts, with_display, with_entry, with_frames, with_head, with_pages, with_version, without_feature, without_step}
use Rattle.vg_journal_lines.proofs.BackLemmas.{words_of}
use Rattle.vg_journal_lines.proofs.EndLemmas.{Fits}
use Rattle.vg_journal_lines.proofs.StepLemmas.{at_clients, at_pages}
use Rattle.vg_journal_lines.proofs.TestLaws.{passes}
use Rattle.vg_journal_read.specs.ScansWithin.{rank}

abbrev pub as_one : Bool → ℕ
as_one true = 1
as_one false = 0

-- How many features are left out.
abbrev pub outs : LeftOut → ℕ
outs out = as_one out.edid + as_one out.uuid + as_one out.blob + as_one out.context

-- How many lines of the queues a version has, and how many of them were read.
abbrev pub as_two : Version → ℕ
as_two One = 0
as_two Two = 1

abbrev pub queued : Stage → Version → ℕ
queued stages.Title version = 0
queued stages.Displays version = 0
queued stages.Queues version = 0
queued stage version = as_two version

-- How many lines of displays, features, queues and the host there were.
abbrev pub heads : State → ℕ
heads state = length state.displays + outs state.left_out + as_one state.host + queued state.stage state.version

-- One piece more: a line of the head, one with which another stage begins, the host, an entry, or the pixels of a frame.
pub data Grew (h e f r h' e' f' r' : ℕ) : Type 0 where
  ByHead : r ≤ 2 → h' ≡ h + 1 → e' ≡ e → f' ≡ f → r' ≡ r → Grew h e f r h' e' f' r'
  ByStage : r ≤ 5 → h' ≡ h → e' ≡ e → f' ≡ f → r' ≡ r + 1 → Grew h e f r h' e' f' r'
  ByHost : r ≡ 3 → h' ≡ h + 1 → e ≡ 0 → e' ≡ 0 → f' ≡ f → r' ≡ 3 → Grew h e f r h' e' f' r'
  ByEntry : r ≡ 3 → h' ≡ h → e' ≡ e + 1 → f' ≡ f → r' ≡ 3 → Grew h e f r h' e' f' r'
  ByFrame : r ≡ 6 → h' ≡ h → e' ≡ e → f' ≡ f + 1 → r' ≡ 5 → Grew h e f r h' e' f' r'
  ByEnd : r ≡ 5 → h' ≡ h → e' ≡ e → f' ≡ f → r' ≡ 7 → Grew h e f r h' e' f' r'

abbrev pub Grows : State → State → Type 0
Grows old new = Grew (heads old) old.entries old.frames (rank old.stage) (heads new) new.entries new.frames (rank new.stage)

abbrev NextGrows : State → Next → Type 0
NextGrows old next = Grows old next.0

-- A feature that stands behind others isn't one of them.
one_not : (a b : Bool) → not (a || b) ≡ true → (not a ≡ true) × (not b ≡ true)
one_not true b is = absurd cc
one_not false b is = (refl, is)

zero_of : (b : Bool) → not b ≡ true → as_one b ≡ 0
zero_of true is = absurd cc
zero_of false is = refl

out_more : (feature : Feature) (out : LeftOut) → is_behind feature out ≡ true → outs (and_out feature out) ≡ outs out + 1
out_more Edid out is =
    let first = one_not (out.edid || out.uuid || out.blob) out.context is in
    let second = one_not (out.edid || out.uuid) out.blob first.0 in
    let none = zero_of out.edid (one_not out.edid out.uuid second.0).0 in
    omega (arith, none)
out_more Uuid out is =
    let first = one_not (out.uuid || out.blob) out.context is in
    let none = zero_of out.uuid (one_not out.uuid out.blob first.0).0 in
    omega (arith, none)
out_more Blob out is = let none = zero_of out.blob (one_not out.blob out.context is).0 in omega (arith, none)
out_more Context out is = let none = zero_of out.context is in omega (arith, none)

-- The rank of a stage.
at_rank : (state : State) (stage : Stage) → state.stage ≡ stage → rank state.stage ≡ rank stage
at_rank state stage at = ap rank at

at_queued : (state : State) (stage : Stage) → state.stage ≡ stage → queued state.stage state.version ≡ queued stage state.version
at_queued state stage at = ap (λ s. queued s state.version) at

title_grows : (state : State) (words : List (List ℕ)) (next : Next) → state.stage ≡ stages.Title → title_step state words ≡ Some next → Grows state next.0
title_grows state words next at is =
    let m = map_parts (with_version state) (title_of words) next is in
    let r = at_rank state stages.Title at in
    let q = at_queued state stages.Title at in
    let more : Grows state (with_version state m.0).0 = ByStage (omega (arith, r)) (omega (arith, q)) refl refl (omega (arith, r)) in
    subst (NextGrows state) m.2 more

pages_grow : (version : Version) (state : State) (pages : ℕ) → version ≡ state.version → state.stage ≡ stages.Displays → Grows state (at_pages version state pages)
pages_grow One state pages same at =
    let r = at_rank state stages.Displays at in
    let q = at_queued state stages.Displays at in
    let none : 0 ≡ as_two state.version = ap as_two same in
    ByStage (omega (arith, r)) (omega (arith, q, none)) refl refl (omega (arith, r))
pages_grow Two state pages same at =
    let r = at_rank state stages.Displays at in
    let q = at_queued state stages.Displays at in
    ByStage (omega (arith, r)) (omega (arith, q)) refl refl (omega (arith, r))

displays_grow : (state : State) (words : List (List ℕ)) (next : Next) → state.stage ≡ stages.Displays
    → (display_step state words ≡ Some next) ⊎ (memory_step state words ≡ Some next) → Grows state next.0
displays_grow state words next at (inl is) =
    let told = passes (nat_lt (length state.displays) 16) (option_map (with_display state) (display_of (limits_of state.version) (length state.displays) words)) next is in
    let m = map_parts (with_display state) (display_of (limits_of state.version) (length state.displays) words) next told.1 in
    let r = at_rank state stages.Displays at in
    let size = length-append state.displays (m.0 ∷ []) in
    let more : Grows state (with_display state m.0).0 = ByHead (omega (arith, r)) (omega (arith, size)) refl refl refl in
    subst (NextGrows state) m.2 more
displays_grow state words next at (inr is) =
    let told = passes (nat_lt 0 (length state.displays)) (option_map (with_pages state) (memory_of words)) next is in
    let m = map_parts (with_pages state) (memory_of words) next told.1 in
    subst (NextGrows state) m.2 (pages_grow state.version state m.0 refl at)

queues_grow : (state : State) (words : List (List ℕ)) (next : Next) → state.stage ≡ stages.Queues → state.version ≡ Two → queues_step state words ≡ Some next → Grows state next.0
queues_grow state words next at second is =
    let after : State = record state { stage = stages.Features } in
    let told = passes (is_queues words) (Some (after, Nothing)) next is in
    let r = at_rank state stages.Queues at in
    let q = at_queued state stages.Queues at in
    let one : as_two state.version ≡ 1 = ap as_two second in
    let more : Grows state after = ByHead (omega (arith, r)) (omega (arith, q, one)) refl refl (omega (arith, r)) in
    subst (NextGrows state) (some_is (after, Nothing) next told.1) more

clients_grow : (version : Version) (state : State) (clients : ℕ) → state.stage ≡ stages.Features → Grows state (at_clients version state clients)
clients_grow One state clients at =
    let r = at_rank state stages.Features at in
    let q = at_queued state stages.Features at in
    ByStage (omega (arith, r)) (omega (arith, q)) refl refl (omega (arith, r))
clients_grow Two state clients at =
    let r = at_rank state stages.Features at in
    let q = at_queued state stages.Features at in
    ByStage (omega (arith, r)) (omega (arith, q)) refl refl (omega (arith, r))

features_grow : (state : State) (words : List (List ℕ)) (next : Next) → state.stage ≡ stages.Features
    → (without_step state words ≡ Some next) ⊎ (clients_step state words ≡ Some next) → Grows state next.0
features_grow state words next at (inl is) =
    let m = then_parts (without_feature state) (without_of words) next is in
    let after : State = record state { left_out = and_out m.0 state.left_out } in
    let told = passes (is_behind m.0 state.left_out) (Some (after, Nothing)) next m.2 in
    let r = at_rank state stages.Features at in
    let one = out_more m.0 state.left_out told.0 in
    let more : Grows state after = ByHead (omega (arith, r)) (omega (arith, one)) refl refl refl in
    subst (NextGrows state) (some_is (after, Nothing) next told.1) more
features_grow state words next at (inr is) =
    let m = map_parts (with_clients state) (clients_of (limits_of state.version) words) next is in
    subst (NextGrows state) m.2 (clients_grow state.version state m.0 at)

entries_grow : (state : State) (words : List (List ℕ)) (next : Next) → rank state.stage ≡ 3 → queued state.stage state.version ≡ as_two state.version
    → (rings_step state words ≡ Some next) ⊎ (entry_step state words ≡ Some next) → Grows state next.0
entries_grow state words next r q (inl is) =
    let m = map_parts (with_counts state) (rings_of words) next is in
    let more : Grows state (with_counts state m.0).0 = ByStage (omega (arith, r)) (omega (arith, q)) refl refl (omega (arith, r)) in
    subst (NextGrows state) m.2 more
entries_grow state words next r q (inr is) =
    let m = map_parts (with_entry state) (entry_of (state.entries + 1) (parties state.clients state.host) words) next is in
    let more : Grows state (with_entry state m.0).0 = ByEntry r (omega (arith, q)) refl refl refl in
    subst (NextGrows state) m.2 more

host_grows : (state : State) (words : List (List ℕ)) (next : Next) → state.stage ≡ stages.Host → state.entries ≡ 0 → state.host ≡ false
    → (host_step state words ≡ Some next) ⊎ (entries_step state words ≡ Some next) → Grows state next.0
host_grows state words next at none unsaid (inl is) =
    let after : State = record state { stage = stages.Entries; host = true } in
    let told = passes (is_host words) (Some (after, Nothing)) next is in
    let q = at_queued state stages.Host at in
    let zero : as_one state.host ≡ 0 = ap as_one unsaid in
    let more : Grows state after = ByHost (at_rank state stages.Host at) (omega (arith, q, zero)) none none refl refl in
    subst (NextGrows state) (some_is (after, Nothing) next told.1) more
host_grows state words next at none unsaid (inr is) =
    entries_grow state words next (at_rank state stages.Host at) (at_queued state stages.Host at) (or_parts (rings_step state words) (entry_step state words) next is)

frames_grow : (state : State) (words : List (List ℕ)) (next : Next) → state.stage ≡ stages.Frames → frames_step state words ≡ Some next → Grows state next.0
frames_grow state words next at is =
    let m = map_parts (with_frames state) (frames_of words) next is in
    let r = at_rank state stages.Frames at in
    let q = at_queued state stages.Frames at in
    let more : Grows state (with_frames state m.0).0 = ByStage (omega (arith, r)) (omega (arith, q)) refl refl (omega (arith, r)) in
    subst (NextGrows state) m.2 more

frame_grows : (b : Bool) (left : ℕ) (state : State) (words : List (List ℕ)) (next : Next) → state.stage ≡ stages.Frame left
    → (if b then end_step state words else head_step (left - 1) state words) ≡ Some next → Grows state next.0
frame_grows true left state words next at is =
    let after : State = record state { stage = stages.Done } in
    let told = passes (is_end words) (Some (after, Nothing)) next is in
    let r = at_rank state (stages.Frame left) at in
    let q = at_queued state (stages.Frame left) at in
    let more : Grows state after = ByEnd r (omega (arith, q)) refl refl refl in
    subst (NextGrows state) (some_is (after, Nothing) next told.1) more
frame_grows false left state words next at is =
    let m = then_parts (with_head (left - 1) state) (frame_of (state.frames + 1) words) next is in
    let after : State = record state { stage = stages.Pixels m.0 (left - 1); bytes = state.bytes + pixels_of m.0 } in
    let told = passes (nat_le (state.bytes + pixels_of m.0) 268435456) (Some (after, Nothing)) next m.2 in
    let r = at_rank state (stages.Frame left) at in
    let q = at_queued state (stages.Frame left) at in
    let more : Grows state after = ByStage (omega (arith, r)) (omega (arith, q)) refl refl (omega (arith, r)) in
    subst (NextGrows state) (some_is (after, Nothing) next told.1) more

pixels_grow : (head : FrameHead) (left : ℕ) (state : State) (piece : List ℕ) (next : Next) → state.stage ≡ stages.Pixels head left → pixels_step head left state piece ≡ Some next → Grows state next.0
pixels_grow head left state piece next at is =
    let after : State = record state { stage = stages.Frame left; frames = state.frames + 1 } in
    let told = passes (length piece == pixels_of head) (Some (after, AFrame (frame_with head piece))) next is in
    let r = at_rank state (stages.Pixels head left) at in
    let q = at_queued state (stages.Pixels head left) at in
    let more : Grows state after = ByFrame r (omega (arith, q)) refl refl refl in
    subst (NextGrows state) (some_is (after, AFrame (frame_with head piece)) next told.1) more

-- Each piece brings a reader on by one.
pub step_grows : (stage : Stage) (state : State) (piece : List ℕ) (next : Next) → state.stage ≡ stage → Fits stage state → piece_step stage state piece ≡ Some next → Grows state next.0
step_grows stages.Title state piece next at fits is = title_grows state (parts_at 32 piece) next at (words_of stages.Title state piece next tt is)
step_grows stages.Displays state piece next at fits is =
    let words = parts_at 32 piece in
    displays_grow state words next at (or_parts (display_step state words) (memory_step state words) next (words_of stages.Displays state piece next tt is))
step_grows stages.Queues state piece next at fits is = queues_grow state (parts_at 32 piece) next at fits.4 (words_of stages.Queues state piece next tt is)
step_grows stages.Features state piece next at fits is =
    let words = parts_at 32 piece in
    features_grow state words next at (or_parts (without_step state words) (clients_step state words) next (words_of stages.Features state piece next tt is))
step_grows stages.Host state piece next at fits is =
    let words = parts_at 32 piece in
    host_grows state words next at fits.2 fits.3 (or_parts (host_step state words) (entries_step state words) next (words_of stages.Host state piece next tt is))
step_grows stages.Entries state piece next at fits is =
    let words = parts_at 32 piece in
    entries_grow state words next (at_rank state stages.Entries at) (at_queued state stages.Entries at) (or_parts (rings_step state words) (entry_step state words) next (words_of stages.Entries state piece next tt is))
step_grows stages.Frames state piece next at fits is = frames_grow state (parts_at 32 piece) next at (words_of stages.Frames state piece next tt is)
step_grows (stages.Frame left) state piece next at fits is =
    frame_grows (left == 0) left state (parts_at 32 piece) next at (words_of (stages.Frame left) state piece next tt is)
step_grows (stages.Pixels head left) state piece next at fits is = pixels_grow head left state piece next at is
step_grows stages.Done state piece next at fits is = no_more next is
