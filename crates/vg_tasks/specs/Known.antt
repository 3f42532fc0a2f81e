-- What a client knows: what it holds by its acts, the names of its buffers and of its contexts, and what it shows.
use Rattle.std.specs.Prelude.{ℕ, List, [], length, replicate, Option, None}
use Rattle.vg_client_holds.specs.declared.holds.Holds.{Holds}
use Rattle.vg_client_holds.specs.declared.setup.Setup.{Setup}
use Rattle.vg_client_holds.specs.Holds.{first_holds}
use Rattle.vg_names.specs.Names.{NamesState}
use Rattle.vg_names.specs.Contexts.{ContextsState}

-- `shows` has for each scanout the key that the client showed there last, if nothing of its own has freed the scanout since.
pub record Known : Type 0 where
  pub holds : Holds
  pub names : NamesState
  pub contexts : ContextsState
  pub shows : List (Option ℕ)

-- What a client knows before its first call.
abbrev pub first_known : Setup → ℕ → Known
first_known setup client = record {
  holds = first_holds setup client;
  names = record { current = []; made = 0 };
  contexts = record { current = []; made = 0 };
  shows = replicate (length setup.displays) None;
}
