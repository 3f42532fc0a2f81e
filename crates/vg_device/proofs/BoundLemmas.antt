-- Screens after the commands that bind, disable and flush scanouts, and after a resource was taken away.
use Rattle.std.proofs.Common.{◌≡◌, ◌≢◌, ◌≤◌, ◌<◌, ℕ, ◌+◌, ◌-◌, ◌*◌, Bool, true, false, cond, List, [], ◌∷◌, Option, Some, None, Result, sym, ap, ◌∙◌, refl, subst, length, get_or, replicate, rules, set, arith}
use Rattle.std.specs.List.{All}
use Rattle.std.proofs.lemmas.Bool.Decides.{nat_tests}
use Rattle.std.proofs.lemmas.List.{length-map, length-set}
use Rattle.std.proofs.lemmas.List.Elements.{All-map, All-replicate, All-set}
use Rattle.vg_laws.proofs.Options.{some-same}
use Rattle.vg_formats.specs.declared.rect.Rect.{Rect}
use Rattle.vg_resource.specs.declared.resource.Resource.{Resource}
use Rattle.vg_cursor.specs.declared.cursor.Cursor.{Cursor}
use Rattle.vg_scanout.specs.declared.scanout.Binding.{Binding}
use Rattle.vg_scanout.specs.Scanout.{Screen}
use Rattle.vg_refusals.specs.Refusals.{refusal_of, unless_refused}
use Rattle.vg_resource.specs.Resource.{resource_at, without, IsWhole}
use Rattle.vg_scanout.specs.Scanout.{ScanoutState, after_flush, bind, bound, flush, flushed, flushed_screen, are_too_many, fresh_screen, is_bound_to, is_flushed, is_too_large, unbound_from}
use Rattle.vg_blob.specs.declared.blobs.Blob.{Blob}
use Rattle.vg_blob.specs.Blobs.{blob_at}
use Rattle.vg_blob.specs.Blobs as blobs_list
use Rattle.vg_device.specs.State.{IsShowing, ShowsBlob, ShowsEither, ShowsResource}
use Rattle.vg_formats.specs.declared.format.Format.{Format}
use Rattle.vg_device.specs.declared.blobs.Layout.{Layout}
use Rattle.vg_device.specs.BlobStep.{blob_binding, is_laid_out}
use Rattle.vg_device.specs.Step.{binding_of}
use Rattle.vg_device.proofs.MapLemmas.{remove_other}
use Rattle.vg_device.proofs.ShowingLemmas.{shown-found}
use Rattle.vg_formats.specs.Pixels.{is_empty, is_inside}
use Rattle.vg_scanout.specs.Fits.{FitSurface, FitsSurface}

-- as many screens, which show resources that there are
pub record AreShowing (blobs : List (ℕ × Blob)) (resources : List (ℕ × Resource)) (count : ℕ) (screens : List (Option Screen)) : Type 0 where
  pub count_is : length screens ≡ count
  pub showing : All (IsShowing blobs resources) screens

-- a binding shows a resource that there is
abbrev pub IsShown : List (ℕ × Blob) → List (ℕ × Resource) → Binding → Type 0
IsShown blobs resources binding = ShowsEither binding (blob_at binding.resource blobs) (resource_at binding.resource resources)

showing-fresh : (blobs : List (ℕ × Blob)) (resources : List (ℕ × Resource)) (binding : Binding) → IsShown blobs resources binding → IsShowing blobs resources (Some (fresh_screen binding))
unfolding fresh_screen
showing-fresh blobs resources binding shows = shows

showing-bound : (blobs : List (ℕ × Blob)) (resources : List (ℕ × Resource)) (scanout : ℕ) (binding : Binding) (old : ScanoutState) (count : ℕ)
    → IsShown blobs resources binding → AreShowing blobs resources count old.screens → AreShowing blobs resources count (bound scanout binding old).screens
showing-bound blobs resources scanout binding old count shows were = record {
  count_is = length-set old.screens scanout (Some (fresh_screen binding)) ∙ were.count_is;
  showing = All-set (IsShowing blobs resources) old.screens scanout (Some (fresh_screen binding)) (showing-fresh blobs resources binding shows) were.showing;
}

showing-after : (blobs : List (ℕ × Blob)) (resources : List (ℕ × Resource)) (count : ℕ) (refusal : Option ℕ) (old now next : ScanoutState) (done : Result (Unit {0}) ℕ)
    → ◌≡◌ {A = ScanoutState × Result (Unit {0}) ℕ} (now, done) (unless_refused refusal old next)
    → AreShowing blobs resources count old.screens → AreShowing blobs resources count next.screens → AreShowing blobs resources count now.screens
showing-after blobs resources count (Some code) old now next done step were would =
    subst (λ state. AreShowing blobs resources count state.screens) (sym (ap (λ pair. pair.0) step)) were
showing-after blobs resources count None old now next done step were would =
    subst (λ state. AreShowing blobs resources count state.screens) (sym (ap (λ pair. pair.0) step)) would

pub showing-bind : (blobs : List (ℕ × Blob)) (resources : List (ℕ × Resource)) (scanout : ℕ) (binding : Binding) (old now : ScanoutState) (done : Result (Unit {0}) ℕ) (count : ℕ)
    → ◌≡◌ {A = ScanoutState × Result (Unit {0}) ℕ} (now, done) (bind scanout binding old)
    → IsShown blobs resources binding → AreShowing blobs resources count old.screens → AreShowing blobs resources count now.screens
unfolding bind
showing-bind blobs resources scanout binding old now done count step shows were =
    showing-after blobs resources count (refusal_of ((is_too_large binding.rect, 0x1201) ∷ [])) old now (bound scanout binding old) done step were
    (showing-bound blobs resources scanout binding old count shows were)

pub showing-unbound : (blobs : List (ℕ × Blob)) (resources : List (ℕ × Resource)) (scanout count : ℕ) (screens : List (Option Screen)) → AreShowing blobs resources count screens → AreShowing blobs resources count (set screens scanout None)
showing-unbound blobs resources scanout count screens were = record {
  count_is = length-set screens scanout None ∙ were.count_is;
  showing = All-set (IsShowing blobs resources) screens scanout None tt were.showing;
}

-- a binding to a resource inside of it
pub shows-binding : (id : ℕ) (rect : Rect) (resource : Resource) → is_empty rect ≡ false → is_inside rect resource.width resource.height ≡ true → ShowsResource (binding_of id rect resource) resource
shows-binding id rect resource some within = record {
  within = within;
  some_width = grind (arith, nat_tests);
  some_height = grind (arith, nat_tests);
  format = refl;
  stride = refl;
  offset = refl;
}

pub showing-flushed-one : (blobs : List (ℕ × Blob)) (resources : List (ℕ × Resource)) (rect : Rect) (surface : List ℕ) (b : Bool) (screen : Option Screen) → IsShowing blobs resources screen → IsShowing blobs resources (cond b (flushed_screen rect surface screen) screen)
showing-flushed-one blobs resources rect surface true (Some screen) showing = showing
showing-flushed-one blobs resources rect surface true None showing = tt
showing-flushed-one blobs resources rect surface false screen showing = showing

pub showing-flush : (blobs : List (ℕ × Blob)) (resources : List (ℕ × Resource)) (entry id : ℕ) (rect : Rect) (surface : List ℕ) (cursors : List Cursor) (old now : ScanoutState) (done : Result (Unit {0}) ℕ) (count : ℕ)
    → ◌≡◌ {A = ScanoutState × Result (Unit {0}) ℕ} (now, done) (flush entry id rect surface cursors old)
    → AreShowing blobs resources count old.screens → AreShowing blobs resources count now.screens
unfolding flush
showing-flush blobs resources entry id rect surface cursors old now done count step were =
    showing-after blobs resources count (refusal_of ((are_too_many (flushed entry id rect surface cursors old).frames, 0x1201) ∷ [])) old now (flushed entry id rect surface cursors old) done step were
    (record {
      count_is = length-map old.screens (after_flush id rect surface) ∙ were.count_is;
      showing = All-map (IsShowing blobs resources) (after_flush id rect surface) old.screens
          (λ k d within. showing-flushed-one blobs resources rect surface (is_flushed id rect (get_or old.screens k d)) (get_or old.screens k d) (were.showing k d within));
    })

-- the scanouts of a resource that is taken away are disabled
showing-without-one : (blobs : List (ℕ × Blob)) (resources : List (ℕ × Resource)) (id : ℕ) (screen : Option Screen) (b : Bool) → is_bound_to id screen ≡ b → IsShowing blobs resources screen → IsShowing (blobs_list.without id blobs) (without id resources) (cond b None screen)
showing-without-one blobs resources id None b is showing = grind-none b
  where
    grind-none : (b : Bool) → IsShowing (blobs_list.without id blobs) (without id resources) (cond b None None)
    grind-none true = tt
    grind-none false = tt
showing-without-one blobs resources id (Some screen) true is showing = tt
showing-without-one blobs resources id (Some screen) false is showing =
    let number = screen.binding.resource in
    let apart : number ≢ id = λ same. grind (arith, nat_tests) in
    subst (λ found. ShowsEither screen.binding (blob_at number (blobs_list.without id blobs)) found) (sym (remove_other number id apart resources))
    (subst (λ blob. ShowsEither screen.binding blob (resource_at number resources)) (sym (remove_other number id apart blobs)) showing)

pub showing-without : (blobs : List (ℕ × Blob)) (resources : List (ℕ × Resource)) (id count : ℕ) (old : ScanoutState) → AreShowing blobs resources count old.screens → AreShowing (blobs_list.without id blobs) (without id resources) count (unbound_from id old).screens
showing-without blobs resources id count old were = record {
  count_is = length-map old.screens (λ screen. cond (is_bound_to id screen) None screen) ∙ were.count_is;
  showing = All-map (IsShowing (blobs_list.without id blobs) (without id resources)) (λ screen. cond (is_bound_to id screen) None screen) old.screens
      (λ k d within. showing-without-one blobs resources id (get_or old.screens k d) (is_bound_to id (get_or old.screens k d)) refl (were.showing k d within));
}

-- a rectangle inside of width W and height H, of rows of 4 * W bytes
rows-in : (x y w h width height : ℕ) → x + w ≤ width → y + h ≤ height → 0 < h → 4 * width * (y + h - 1) + 4 * (x + w) ≤ 4 * width * height
rows-in x y w h width height across down some =
    let last : 4 * width * (y + h - 1) + 4 * width ≤ 4 * width * height = grind (arith) in
    omega (arith, last, across)

fits-in : (binding : Binding) (resource : Resource) → IsWhole resource → ShowsResource binding resource → FitsSurface (length resource.pixels) binding
fits-in binding resource whole shows =
    let across : binding.rect.x + binding.rect.width ≤ resource.width = grind (arith, nat_tests, shows.within) in
    let down : binding.rect.y + binding.rect.height ≤ resource.height = grind (arith, nat_tests, shows.within) in
    let inside = rows-in binding.rect.x binding.rect.y binding.rect.width binding.rect.height resource.width resource.height across down shows.some_height in
    rw (shows.offset, shows.stride, whole.0) (omega (arith, inside))

-- what a flush shows of a binding stands in these bytes, so many of a blob or of the pixels of a 2D resource
either-fits : (binding : Binding) (blob : Option Blob) (found : Option Resource) (size : ℕ)
    → ShowsEither binding blob found
    → ((one : Blob) → blob ≡ Some one → ShowsBlob binding one → FitsSurface size binding)
    → ((one : Resource) → blob ≡ None → found ≡ Some one → ShowsResource binding one → FitsSurface size binding)
    → FitsSurface size binding
either-fits binding (Some blob) found size shows as_blob as_resource = as_blob blob refl shows
either-fits binding None found size shows as_blob as_resource =
    let (one, is, shown) = shown-found binding found shows in as_resource one refl is shown

some-none : {X P : Type 0} {x : X} (found : Option X) → found ≡ Some x → found ≡ None → P
some-none found is none = cc

fits-one : (blobs : List (ℕ × Blob)) (resources : List (ℕ × Resource)) (id : ℕ) (resource : Resource) (screen : Option Screen) → blob_at id blobs ≡ None → resource_at id resources ≡ Some resource → IsWhole resource → IsShowing blobs resources screen → FitSurface id (length resource.pixels) screen
fits-one blobs resources id resource None apart is whole showing = tt
fits-one blobs resources id resource (Some screen) apart is whole showing = λ same.
    either-fits screen.binding (blob_at screen.binding.resource blobs) (resource_at screen.binding.resource resources) (length resource.pixels) showing
    (λ one blob shows. some-none (blob_at id blobs) (ap (λ n. blob_at n blobs) (sym same) ∙ blob) apart)
    (λ one none found shows.
    let equal : resource ≡ one = some-same (sym is ∙ ap (λ n. resource_at n resources) (sym same) ∙ found) in
    fits-in screen.binding resource whole (subst (ShowsResource screen.binding) (sym equal) shows))

pub fits-surface : (blobs : List (ℕ × Blob)) (resources : List (ℕ × Resource)) (id : ℕ) (resource : Resource) (screens : List (Option Screen)) → blob_at id blobs ≡ None → resource_at id resources ≡ Some resource → IsWhole resource → All (IsShowing blobs resources) screens → All (FitSurface id (length resource.pixels)) screens
fits-surface blobs resources id resource screens apart is whole showing = λ k d within. fits-one blobs resources id resource (get_or screens k d) apart is whole (showing k d within)

-- the pixels of a layout, of which a rectangle is shown, stand in a blob
rows-apart : (offset stride x y w h width height size : ℕ) → x + w ≤ width → y + h ≤ height → 0 < h → 0 < height → offset + stride * (height - 1) + 4 * width ≤ size
    → offset + stride * (y + h - 1) + 4 * (x + w) ≤ size
rows-apart offset stride x y w h width height size across down some_h some last =
    let rows : stride * (y + h - 1) ≤ stride * (height - 1) = grind (arith) in
    omega (arith, rows, across, last)

fits-blob-in : (binding : Binding) (blob : Blob) → ShowsBlob binding blob → FitsSurface blob.size binding
fits-blob-in binding blob shows =
    let across : binding.rect.x + binding.rect.width ≤ binding.width = grind (arith, nat_tests, shows.within) in
    let down : binding.rect.y + binding.rect.height ≤ binding.height = grind (arith, nat_tests, shows.within) in
    rows-apart binding.offset binding.stride binding.rect.x binding.rect.y binding.rect.width binding.rect.height binding.width binding.height blob.size
    across down shows.some_height (omega (arith, down, shows.some_height)) shows.last

fits-blob-one : (blobs : List (ℕ × Blob)) (resources : List (ℕ × Resource)) (id : ℕ) (blob : Blob) (screen : Option Screen) → blob_at id blobs ≡ Some blob → IsShowing blobs resources screen → FitSurface id blob.size screen
fits-blob-one blobs resources id blob None is showing = tt
fits-blob-one blobs resources id blob (Some screen) is showing = λ same.
    either-fits screen.binding (blob_at screen.binding.resource blobs) (resource_at screen.binding.resource resources) blob.size showing
    (λ one found shows.
    let equal : blob ≡ one = some-same (sym is ∙ ap (λ n. blob_at n blobs) (sym same) ∙ found) in
    fits-blob-in screen.binding blob (subst (ShowsBlob screen.binding) (sym equal) shows))
    (λ one none found shows. some-none (blob_at id blobs) is (ap (λ n. blob_at n blobs) (sym same) ∙ none))

pub fits-blob : (blobs : List (ℕ × Blob)) (resources : List (ℕ × Resource)) (id : ℕ) (blob : Blob) (screens : List (Option Screen)) → blob_at id blobs ≡ Some blob → All (IsShowing blobs resources) screens → All (FitSurface id blob.size) screens
fits-blob blobs resources id blob screens is showing = λ k d within. fits-blob-one blobs resources id blob (get_or screens k d) is (showing k d within)

-- a binding to pixels that are laid out in a blob
pub shows-blob : (id : ℕ) (rect : Rect) (layout : Layout) (format : Format) (blob : Blob) → is_laid_out rect layout blob.size ≡ true → ShowsBlob (blob_binding id rect layout format) blob
shows-blob id rect layout format blob fits = record {
  within = search rules;
  some_width = grind (arith, nat_tests, fits);
  some_height = grind (arith, nat_tests, fits);
  row = grind (arith, nat_tests, fits);
  last = grind (arith, nat_tests, fits);
}

pub within-true : (rect : Rect) (width height : ℕ) → rect.x + rect.width ≤ width → rect.y + rect.height ≤ height → is_inside rect width height ≡ true
within-true rect width height across down = grind (arith, nat_tests)

-- scanouts that are all disabled
pub none-showing : (blobs : List (ℕ × Blob)) (resources : List (ℕ × Resource)) (count : ℕ) → All (IsShowing blobs resources) (replicate count None)
none-showing blobs resources count = All-replicate (IsShowing blobs resources) count None tt
