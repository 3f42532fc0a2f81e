-- How many there are of what is counted, after every history.
use Rattle.std.proofs.Common.{◌≡◌, ◌≤◌, ℕ, ◌+◌, Bool, true, false, cond, List, [], ◌∷◌, ◌++◌, length, Option, None, refl, ◌∙◌, arith}
use Rattle.std.specs.Prelude.{is_some}
use Rattle.std.specs.Ordering.{nat_cmp}
use Rattle.std.specs.BTreeMap.{insert_entry}
use Rattle.std.proofs.lemmas.List.{length-map, length-replicate, length-set, length_push}
use Rattle.vg_cursor.specs.declared.cursor.Cursor.{Cursor}
use Rattle.vg_cursor.specs.Cursor.{cursor_of, unset}
use Rattle.vg_scanout.specs.Scanout.{Screen, after_flush, unbound_screen}
use Rattle.vg_blob.specs.Uuids.{UuidState, number_at}
use Rattle.vg_client_holds.specs.declared.setup.Setup.{Setup}
use Rattle.vg_device.specs.State.{State, start}
use Rattle.vg_device.specs.Step.{surface_of}
use Rattle.vg_machine.specs.Entries.{Entry}
use Rattle.vg_machine.specs.Replay.{replay}
use Rattle.vg_linked.proofs.MoveLemmas.{AllMoves, acts_leave, commands_leave, replay-kept}

-- ---- the setup, screens and cursors

pub record AsMany (setup now : Setup) (screens : List (Option Screen)) (cursors : List Cursor) : Type 0 where
  pub setup_is : now ≡ setup
  pub screens_are : length screens ≡ length setup.displays
  pub cursors_are : length cursors ≡ length setup.displays

many-screens : (setup now : Setup) (screens more : List (Option Screen)) (cursors : List Cursor) → length more ≡ length screens → AsMany setup now screens cursors → AsMany setup now more cursors
many-screens setup now screens more cursors same was = record { setup_is = was.setup_is; screens_are = same ∙ was.screens_are; cursors_are = was.cursors_are }

abbrev ManyOf : Setup → State → Type 0
ManyOf setup s = AsMany setup s.setup s.scanouts.screens s.cursors

many_moves : (setup : Setup) → AllMoves (ManyOf setup) (ManyOf setup)
many_moves setup = record {
  count = λ s was. was;
  commands = record {
    stay = λ s was. was;
    create = λ s id format width height known none made was. was;
    unref = λ s id was. many-screens setup s.setup s.scanouts.screens _ s.cursors (length-map s.scanouts.screens (unbound_screen id)) was;
    bind = λ s rect scanout id resource none some is was.
        many-screens setup s.setup s.scanouts.screens _ s.cursors (length-set s.scanouts.screens scanout _) was;
    bind_blob = λ s rect scanout id layout format none some is was.
        many-screens setup s.setup s.scanouts.screens _ s.cursors (length-set s.scanouts.screens scanout _) was;
    unbind = λ s scanout was. many-screens setup s.setup s.scanouts.screens _ s.cursors (length-set s.scanouts.screens scanout None) was;
    flush = λ s rect id was. many-screens setup s.setup s.scanouts.screens _ s.cursors (length-map s.scanouts.screens (after_flush id rect (surface_of s id))) was;
    receive = λ s rect offset id resource none is was. was;
    attach = λ s id ranges none made was. was;
    detach = λ s id was. was;
    assign = λ s id was. was;
    create_blob = λ s id mem flags size ranges none made given was. was;
    context = λ s now was. was;
    point = λ s scanout change was. record {
      setup_is = was.setup_is;
      screens_are = was.screens_are;
      cursors_are = length-set s.cursors scanout (change (cursor_of s.cursors scanout)) ∙ was.cursors_are;
    };
  };
  acts = acts_leave (ManyOf setup) (λ s memory share plugs many was. was);
}

pub as-many : (setup : Setup) (H : List Entry) → ManyOf setup (replay setup H)
as-many setup H = replay-kept (ManyOf setup) (ManyOf setup) (many_moves setup) (start setup) H
    (record { setup_is = refl; screens_are = length-replicate (length setup.displays) None; cursors_are = length-replicate (length setup.displays) unset })

-- ---- the modes of displays

abbrev PlugsOf : Setup → State → Type 0
PlugsOf setup s = length s.plugs.modes ≡ length setup.displays

plug_moves : (setup : Setup) → AllMoves (PlugsOf setup) (PlugsOf setup)
plug_moves setup = record {
  count = λ s was. was;
  commands = commands_leave (λ memory share plugs. length plugs.modes ≡ length setup.displays);
  acts = acts_leave (PlugsOf setup) (λ s memory share plugs many was. many ∙ was);
}

pub as-plugged : (setup : Setup) (H : List Entry) → PlugsOf setup (replay setup H)
as-plugged setup H = replay-kept (PlugsOf setup) (PlugsOf setup) (plug_moves setup) (start setup) H (length-map _ _)

-- ---- keys, tokens and UUIDs are no more than entries

pub record Within (slack entries reserved exports given : ℕ) : Type 0 where
  pub reserved_is : reserved + slack ≤ entries
  pub exports_are : exports + slack ≤ entries
  pub given_are : given + slack ≤ entries

within : (entries reserved exports given reserved_now exports_now given_now : ℕ) → reserved_now ≤ reserved + 1 → exports_now ≤ exports + 1 → given_now ≤ given + 1
    → Within 1 entries reserved exports given → Within 0 entries reserved_now exports_now given_now
within entries reserved exports given reserved_now exports_now given_now a b c was = record {
  reserved_is = omega (arith, a, was.reserved_is);
  exports_are = omega (arith, b, was.exports_are);
  given_are = omega (arith, c, was.given_are);
}

same : (entries reserved exports given : ℕ) → Within 1 entries reserved exports given → Within 0 entries reserved exports given
same entries reserved exports given was = within entries reserved exports given reserved exports given (omega arith) (omega arith) (omega arith) was

abbrev WithinOf : ℕ → State → Type 0
WithinOf slack s = Within slack s.entries s.share.reserved (length s.share.exports) s.uuids.given

still : (s : State) → WithinOf 1 s → WithinOf 0 s
still s was = same s.entries s.share.reserved (length s.share.exports) s.uuids.given was

given-by : (id : ℕ) (uuids : UuidState) (b : Bool) → (cond b uuids (record { numbers = insert_entry nat_cmp uuids.numbers id (uuids.given + 1); given = uuids.given + 1 })).given ≤ uuids.given + 1
given-by id uuids true = omega arith
given-by id uuids false = omega arith

within_moves : AllMoves (WithinOf 1) (WithinOf 0)
within_moves = record {
  count = λ s was. record { reserved_is = omega (arith, was.reserved_is); exports_are = omega (arith, was.exports_are); given_are = omega (arith, was.given_are) };
  commands = record {
    stay = still;
    create = λ s id format width height known none made was. still s was;
    unref = λ s id was. still s was;
    bind = λ s rect scanout id resource none some is was. still s was;
    bind_blob = λ s rect scanout id layout format none some is was. still s was;
    unbind = λ s scanout was. still s was;
    flush = λ s rect id was. still s was;
    receive = λ s rect offset id resource none is was. still s was;
    attach = λ s id ranges none made was. still s was;
    detach = λ s id was. still s was;
    assign = λ s id was. within s.entries s.share.reserved (length s.share.exports) s.uuids.given s.share.reserved (length s.share.exports) _ (omega arith) (omega arith)
        (given-by id s.uuids (is_some (number_at id s.uuids))) was;
    create_blob = λ s id mem flags size ranges none made given was. still s was;
    context = λ s now was. still s was;
    point = λ s scanout change was. still s was;
  };
  acts = record {
    stay = still;
    reserve = λ s client geometry none was.
        within s.entries s.share.reserved (length s.share.exports) s.uuids.given (s.share.reserved + 1) (length s.share.exports) s.uuids.given (omega arith) (omega arith) (omega arith) was;
    store = λ s client key offset bytes times none was. still s was;
    export = λ s key was. within s.entries s.share.reserved (length s.share.exports) s.uuids.given s.share.reserved (length (s.share.exports ++ key ∷ [])) s.uuids.given (omega arith)
        (omega (arith, length_push s.share.exports key)) (omega arith) was;
    import = λ s client token none was. still s was;
    release = λ s client key none was. still s was;
    free = λ s client key none was. still s was;
    take = λ s client scanout none was. still s was;
    drop = λ s client scanout none was. still s was;
    plug = λ s plugs many was. still s was;
    leave = λ s client was. still s was;
  };
}

pub counts-within : (setup : Setup) (H : List Entry) → WithinOf 0 (replay setup H)
counts-within setup H = replay-kept (WithinOf 1) (WithinOf 0) within_moves (start setup) H (record { reserved_is = omega arith; exports_are = omega arith; given_are = omega arith })
