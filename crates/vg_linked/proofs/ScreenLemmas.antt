-- What scanouts show, after every history.
use Rattle.std.proofs.Common.{◌≡◌, ℕ, ◌==◌, ◌||◌, not, Bool, true, false, List, [], ◌∷◌, length, get_or, set, Option, Some, None, refl, ap, sym, subst, ◌∙◌}
use mathlib.Core.Logic.{dite}
use native.Mathlib.Decide.{ℕ_discrete}
use Rattle.std.specs.Prelude.{is_none, is_some, nat_le, slice_get, if◌then◌else◌}
use Rattle.std.specs.Ordering.{nat_cmp}
use Rattle.std.specs.List.{All}
use Rattle.std.specs.BTreeMap.{insert_entry}
use Rattle.std.proofs.lemmas.List.Elements.{All-map, All-set}
use Rattle.std.proofs.lemmas.Option.{get_or_from_slice_get, slice_get_within}
use Rattle.vg_laws.proofs.Options.{none-there}
use Rattle.vg_laws.proofs.Bools.{or-first, or-second, not-false}
use Rattle.vg_formats.specs.declared.format.Format.{Format}
use Rattle.vg_formats.specs.declared.rect.Rect.{Rect}
use Rattle.vg_formats.specs.Pixels.{is_empty, is_inside}
use Rattle.vg_resource.specs.declared.resource.Resource.{Resource}
use Rattle.vg_resource.specs.Resource.{blank, height_of, resource_at, width_of}
use Rattle.vg_blob.specs.declared.blobs.Blob.{Blob}
use Rattle.vg_blob.specs.Blobs.{blob_at}
use Rattle.vg_refusals.specs.Refusals.{refusal_of}
use Rattle.vg_scanout.specs.declared.scanout.Binding.{Binding}
use Rattle.vg_scanout.specs.Scanout.{Screen, after_flush, binding_at, binding_of_screen, fresh_screen, is_flushed, is_too_large}
use Rattle.vg_wire.specs.Kinds.{ERR_INVALID_PARAMETER, ERR_INVALID_RESOURCE_ID, ERR_INVALID_SCANOUT_ID, ERR_OUT_OF_MEMORY}
use Rattle.vg_client_holds.specs.declared.setup.Setup.{Setup}
use Rattle.vg_device.specs.declared.blobs.Layout.{Layout}
use Rattle.vg_device.proofs.BoundLemmas.{none-showing, showing-unbound, showing-without, shows-binding, shows-blob, showing-flushed-one}
use Rattle.vg_device.proofs.MapLemmas.{insert_other}
use Rattle.vg_device.proofs.ShowingLemmas.{Keeping, all-showing, found-shown, keeping-pixels}
use Rattle.vg_device.specs.BlobStep.{blob_binding, is_in_blob, is_laid_out, set_scanout_blob_refusals, show_blob_refusals}
use Rattle.vg_device.specs.State.{IsShowing, ShowsEither, State, has_resource, is_blob, start}
use Rattle.vg_device.specs.Step.{binding_of, set_scanout_refusals, show_refusals, surface_of}
use Rattle.vg_machine.specs.Entries.{Entry}
use Rattle.vg_machine.specs.Replay.{replay}
use Rattle.vg_linked.proofs.FitLemmas.{none-first, none-rest}
use Rattle.vg_linked.proofs.IdLemmas.{new-2d, new-blob, some-none}
use Rattle.vg_linked.proofs.MoveLemmas.{AllMoves, acts_leave, replay-kept}

abbrev Shows : List (ℕ × Blob) → List (ℕ × Resource) → List (Option Screen) → Type 0
Shows blobs resources screens = All (IsShowing blobs resources) screens

-- ---- resources and blobs that come

kept-new : (id : ℕ) (resource : Resource) (old : List (ℕ × Resource)) → resource_at id old ≡ None → Keeping old (insert_entry nat_cmp old id resource)
kept-new id resource old none q found is = dite (ℕ_discrete q id)
    (λ same. some-none (resource_at q old) found is (ap (λ n. resource_at n old) same ∙ none))
    (λ other. (found, insert_other q id resource other old ∙ is, record { width = refl; height = refl; format = refl }))

nothing-shown : {P : Type 0} (binding : Binding) (blob : Option Blob) (found : Option Resource) → blob ≡ None → found ≡ None → ShowsEither binding blob found → P
nothing-shown binding None None none gone shows = absurd shows
nothing-shown binding (Some blob) found none gone shows = cc
nothing-shown binding None (Some resource) none gone shows = cc

blob-one : (id : ℕ) (blob : Blob) (blobs : List (ℕ × Blob)) (resources : List (ℕ × Resource)) → blob_at id blobs ≡ None → resource_at id resources ≡ None
    → (screen : Option Screen) → IsShowing blobs resources screen → IsShowing (insert_entry nat_cmp blobs id blob) resources screen
blob-one id blob blobs resources none gone None showing = tt
blob-one id blob blobs resources none gone (Some screen) showing =
    let q = screen.binding.resource in
    dite (ℕ_discrete q id)
    (λ same. nothing-shown screen.binding (blob_at q blobs) (resource_at q resources) (ap (λ n. blob_at n blobs) same ∙ none) (ap (λ n. resource_at n resources) same ∙ gone) showing)
    (λ other. subst (λ found. ShowsEither screen.binding found (resource_at q resources)) (sym (insert_other q id blob other blobs)) showing)

-- ---- bindings

bound-fresh : (blobs : List (ℕ × Blob)) (resources : List (ℕ × Resource)) (binding : Binding) → ShowsEither binding (blob_at binding.resource blobs) (resource_at binding.resource resources)
    → IsShowing blobs resources (Some (fresh_screen binding))
unfolding fresh_screen
bound-fresh blobs resources binding shows = shows

-- where a test is false the refusals are those of its other branch
rest-if : (b : Bool) (more : List (Bool × ℕ)) → b ≡ false → refusal_of (if b then [] else more) ≡ None → refusal_of more ≡ None
rest-if true more is none = cc
rest-if false more is none = none

record IsShowable (s : State) (rect : Rect) (id : ℕ) (resource : Resource) : Type 0 where
  no_blob : blob_at id s.blobs ≡ None
  some : is_empty rect ≡ false
  inside : is_inside rect resource.width resource.height ≡ true

showable : (s : State) (rect : Rect) (scanout id : ℕ) (resource : Resource) → refusal_of (set_scanout_refusals s rect scanout id) ≡ None → (id == 0) ≡ false
    → resource_at id s.resources ≡ Some resource → IsShowable s rect id resource
showable s rect scanout id resource none some is =
    let found = resource_at id s.resources in
    let shape = show_refusals rect found in
    let whole = (is_blob s id, ERR_INVALID_PARAMETER) ∷ shape in
    let both = rest-if (id == 0) whole some (none-rest (nat_le (length s.setup.displays) scanout) ERR_INVALID_SCANOUT_ID (if id == 0 then [] else whole) none) in
    let odd = is_empty rect || not (is_inside rect (width_of found) (height_of found)) in
    let later = (is_too_large rect, ERR_OUT_OF_MEMORY) ∷ [] in
    let good : odd ≡ false = none-first odd ERR_INVALID_PARAMETER later
    (none-rest (is_none found) ERR_INVALID_RESOURCE_ID ((odd, ERR_INVALID_PARAMETER) ∷ later) (none-rest (is_blob s id) ERR_INVALID_PARAMETER shape both))
    in
    record {
      no_blob = none-there (blob_at id s.blobs) (none-first (is_blob s id) ERR_INVALID_PARAMETER shape both);
      some = or-first (is_empty rect) (not (is_inside rect (width_of found) (height_of found))) good;
      inside = subst (λ (o : Option Resource). is_inside rect (width_of o) (height_of o) ≡ true) is
          (not-false (is_inside rect (width_of found) (height_of found)) (or-second (is_empty rect) (not (is_inside rect (width_of found) (height_of found))) good));
    }

shows-bound : (s : State) (rect : Rect) (scanout id : ℕ) (resource : Resource) → refusal_of (set_scanout_refusals s rect scanout id) ≡ None → (id == 0) ≡ false
    → resource_at id s.resources ≡ Some resource → Shows s.blobs s.resources s.scanouts.screens
    → Shows s.blobs s.resources (set s.scanouts.screens scanout (Some (fresh_screen (binding_of id rect resource))))
shows-bound s rect scanout id resource none some is was =
    let can = showable s rect scanout id resource none some is in
    let binding = binding_of id rect resource in
    let shown : ShowsEither binding (blob_at id s.blobs) (resource_at id s.resources) =
    subst (λ blob. ShowsEither binding blob (resource_at id s.resources)) (sym can.no_blob)
    (found-shown binding (resource_at id s.resources) resource is (shows-binding id rect resource can.some can.inside))
    in
    All-set (IsShowing s.blobs s.resources) s.scanouts.screens scanout (Some (fresh_screen binding)) (bound-fresh s.blobs s.resources binding shown) was

-- a blob in which the layout is
laid-out : (rect : Rect) (layout : Layout) (found : Option Blob) (P : Type 0) → is_in_blob rect layout found ≡ true → ((blob : Blob) → found ≡ Some blob → is_laid_out rect layout blob.size ≡ true → P) → P
laid-out rect layout (Some blob) P is gives = gives blob refl is
laid-out rect layout None P is gives = cc

shows-bound-blob : (s : State) (rect : Rect) (scanout id : ℕ) (layout : Layout) (format : Format) → refusal_of (set_scanout_blob_refusals s rect scanout id layout) ≡ None → (id == 0) ≡ false
    → Shows s.blobs s.resources s.scanouts.screens → Shows s.blobs s.resources (set s.scanouts.screens scanout (Some (fresh_screen (blob_binding id rect layout format))))
shows-bound-blob s rect scanout id layout format none some was =
    let binding = blob_binding id rect layout format in
    let inside = is_in_blob rect layout (blob_at id s.blobs) in
    let whole = show_blob_refusals s rect id layout in
    let later = (is_too_large rect, ERR_OUT_OF_MEMORY) ∷ [] in
    let both = rest-if (id == 0) whole some (none-rest (nat_le (length s.setup.displays) scanout) ERR_INVALID_SCANOUT_ID (if id == 0 then [] else whole) none) in
    let good = not-false inside
    (none-first (not inside) ERR_INVALID_PARAMETER later (none-rest (not (has_resource s id)) ERR_INVALID_RESOURCE_ID ((not inside, ERR_INVALID_PARAMETER) ∷ later) both))
    in
    laid-out rect layout (blob_at id s.blobs) (Shows s.blobs s.resources (set s.scanouts.screens scanout (Some (fresh_screen binding)))) good (λ blob is fits.
    let shown : ShowsEither binding (blob_at id s.blobs) (resource_at id s.resources) =
    subst (λ found. ShowsEither binding found (resource_at id s.resources)) (sym is) (shows-blob id rect layout format blob fits)
    in
    All-set (IsShowing s.blobs s.resources) s.scanouts.screens scanout (Some (fresh_screen binding)) (bound-fresh s.blobs s.resources binding shown) was)

shows-flushed : (s : State) (rect : Rect) (id : ℕ) (surface : List ℕ) (screens : List (Option Screen)) → Shows s.blobs s.resources screens
    → All (λ screen. IsShowing s.blobs s.resources (after_flush id rect surface screen)) screens
shows-flushed s rect id surface screens was = λ k d within.
    showing-flushed-one s.blobs s.resources rect surface (is_flushed id rect (get_or screens k d)) (get_or screens k d) (was k d within)

-- ---- every history

abbrev ShowsOf : State → Type 0
ShowsOf s = Shows s.blobs s.resources s.scanouts.screens

shows_moves : AllMoves ShowsOf ShowsOf
shows_moves = record {
  count = λ s was. was;
  commands = record {
    stay = λ s was. was;
    create = λ s id format width height known none made was.
        all-showing s.blobs s.resources _ s.scanouts.screens (kept-new id (blank width height known) s.resources (new-2d s id format width height none).no_resource) was;
    unref = λ s id was.
        (showing-without s.blobs s.resources id (length s.scanouts.screens) s.scanouts (record { count_is = refl; showing = was })).showing;
    bind = λ s rect scanout id resource none some is was. shows-bound s rect scanout id resource none some is was;
    bind_blob = λ s rect scanout id layout format none some is was. shows-bound-blob s rect scanout id layout format none some was;
    unbind = λ s scanout was.
        (showing-unbound s.blobs s.resources scanout (length s.scanouts.screens) s.scanouts.screens (record { count_is = refl; showing = was })).showing;
    flush = λ s rect id was.
        All-map (IsShowing s.blobs s.resources) (after_flush id rect (surface_of s id)) s.scanouts.screens (shows-flushed s rect id (surface_of s id) s.scanouts.screens was);
    receive = λ s rect offset id resource none is was. all-showing s.blobs s.resources _ s.scanouts.screens (keeping-pixels id resource _ s.resources is) was;
    attach = λ s id ranges none made was. was;
    detach = λ s id was. was;
    assign = λ s id was. was;
    create_blob = λ s id mem flags size ranges none made given was k d within.
        let new = new-blob s id mem flags size ranges none in
        blob-one id (record { size = size; entries = ranges }) s.blobs s.resources new.no_blob new.no_resource (get_or s.scanouts.screens k d) (was k d within);
    context = λ s now was. was;
    point = λ s scanout change was. was;
  };
  acts = acts_leave ShowsOf (λ s memory share plugs many was. was);
}

pub shows : (setup : Setup) (H : List Entry) → ShowsOf (replay setup H)
shows setup H = replay-kept ShowsOf ShowsOf shows_moves (start setup) H (none-showing [] [] (length setup.displays))

-- ---- what is shown is there

either-there : (binding : Binding) (blob : Option Blob) (found : Option Resource) → ShowsEither binding blob found → (is_some blob || is_some found) ≡ true
either-there binding (Some blob) found shows = refl
either-there binding None (Some resource) shows = refl
either-there binding None None shows = absurd shows

screen-there : (s : State) (screen : Option Screen) (binding : Binding) → binding_of_screen (Some screen) ≡ Some binding → IsShowing s.blobs s.resources screen → has_resource s binding.resource ≡ true
screen-there s None binding is showing = cc
screen-there s (Some screen) binding is showing =
    let same : screen.binding ≡ binding = cc in
    subst (λ (b : Binding). has_resource s b.resource ≡ true) same
    (either-there screen.binding (blob_at screen.binding.resource s.blobs) (resource_at screen.binding.resource s.resources) showing)

found-there : (s : State) (scanout : ℕ) (found : Option (Option Screen)) (binding : Binding) → slice_get s.scanouts.screens scanout ≡ found → binding_of_screen found ≡ Some binding → ShowsOf s
    → has_resource s binding.resource ≡ true
found-there s scanout None binding at is showing = cc
found-there s scanout (Some screen) binding at is showing =
    screen-there s screen binding is
    (subst (IsShowing s.blobs s.resources) (get_or_from_slice_get s.scanouts.screens scanout screen None at)
    (showing scanout None (slice_get_within s.scanouts.screens scanout screen at)))

pub bound-there : (s : State) (scanout : ℕ) (binding : Binding) → binding_at scanout s.scanouts ≡ Some binding → ShowsOf s → has_resource s binding.resource ≡ true
bound-there s scanout binding is showing = found-there s scanout (slice_get s.scanouts.screens scanout) binding refl is showing
