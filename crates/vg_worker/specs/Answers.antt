-- What becomes of a command that a worker runs.
use Rattle.std.specs.Prelude.{◌≡◌, ◌⊎◌, ℕ, Bool, true, false, List, []}
use Rattle.vg_cargo.specs.Cargo.{CargoData, ParcelData}
use Rattle.vg_book.specs.declared.outcome.Carried as books
use Rattle.vg_book.specs.declared.outcome.Carried.TheVariants.{Wanted, Done, Unrun}
use Rattle.vg_book.specs.Tokens as tokens
use Rattle.vg_client_holds.specs.declared.act.Act.{Act}
use Rattle.vg_client_holds.specs.declared.act.ActReply.{ActReply}
use Rattle.vg_device.specs.declared.request.Reply.{Reply}
use Rattle.vg_device.specs.declared.request.Request.{Request}
use Rattle.vg_client_holds.specs.declared.holds.Holds.{Holds}
use Rattle.vg_device.specs.State.{State}
use Rattle.vg_machine.specs.Jobs.{Job}
use Rattle.vg_machine.specs.Lender.{Lender}
use Rattle.vg_machine.specs.Replay.{display}
use Rattle.vg_machine.specs.Written.{written_in}

abbrev pub Lane : Type 0
Lane = tokens.Lane Lender State Act ActReply Request Reply Holds Job

abbrev pub Pass : Type 0
Pass = tokens.Passed Lender State Act ActReply Request Reply Holds Job

abbrev pub Carried : Type 0 → Type 0
Carried B = books.Carried Lender B State Act ActReply Request Reply Holds Job

-- The pass wasn't run, and comes back: behind a look for room in the history, or as it was, where its request couldn't be read.
abbrev pub ComesUnrun : Lane → Pass → Lane → Pass → Type 0
ComesUnrun old pass new back = tokens.Stays display old pass new back ⊎ ((new ≡ old) × (back ≡ pass))

-- What becomes of a wanted pass: its lane has run it, one command more, and its response is what the reply writes; or its
-- lane has as many commands as before, and its response is empty.
abbrev pub Carries : {B : Type 0} → Lane → Pass → ℕ → Lane → List ℕ → Carried B → Bool → Type 0
Carries old pass room new response (Done done) ran = tokens.Ran display old pass new done × (response ≡ written_in room done.reply) × (ran ≡ true)
Carries old pass room new response (Unrun back) ran = ComesUnrun old pass new back × (response ≡ []) × (ran ≡ false)
Carries old pass room new response (Wanted other) ran = ⊥

-- The same parcel but for what was filled into its room.
abbrev pub IsSameParcel : ParcelData → ParcelData → Type 0
IsSameParcel old new = new ≡ record old { response = new.response }

-- A cargo comes back: the same parcel, with what became of its pass.
abbrev pub ComesBack : {B : Type 0} → Lane → CargoData (Carried B) → Lane → CargoData (Carried B) → Bool → Type 0
ComesBack old cargo new back ran = (pass : Pass) × (cargo.pass ≡ Wanted pass) × Carries old pass cargo.parcel.room new back.parcel.response back.pass ran × IsSameParcel cargo.parcel back.parcel

abbrev pub Answers : {B : Type 0} → Lane → CargoData (Carried B) → Lane → CargoData (Carried B) → Type 0
Answers old cargo new back = (ran : Bool) × ComesBack old cargo new back ran

-- A wanted pass that turned back, of which nothing was asked.
abbrev pub turned : {B : Type 0} → Carried B → Carried B
turned (Wanted pass) = Unrun pass
turned back = back
