-- What the commands of the cursor queue do to the display.
use Rattle.std.proofs.Common.{◌≡◌, ◌≤◌, ◌<◌, ℕ, ◌*◌, ◌==◌, ◌&&◌, Bool, false, not, List, [], ◌∷◌, length, Option, Some, None, Result, Ok, Err, refl, sym, ap, ◌∙◌, arith}
use Rattle.std.specs.Prelude.{nat_lt}
use Rattle.std.proofs.lemmas.Bool.Decides.{nat_tests}
use Rattle.std.proofs.lemmas.List.{get_or_past, get_or-set_same}
use Rattle.vg_cursor.specs.declared.cursor.Cursor.{Cursor}
use Rattle.vg_cursor.specs.Cursor.{changed, cursor_of, unset}
use Rattle.vg_places.proofs.Places.{length-tabulate}
use Rattle.vg_refusals.specs.Refusals.{refusal_of, unless_refused}
use Rattle.vg_resource.specs.declared.resource.Resource.{Resource}
use Rattle.vg_resource.specs.Resource.{IsWhole}
use Rattle.vg_scanout.specs.Scanout.{ScanoutState, is_past_limit, snap, snapped}
use Rattle.vg_formats.specs.Shown.{shown_byte, shown_row}
use Rattle.vg_wire_ext.specs.declared.response.Response.TheVariants as responses
use Rattle.vg_device.specs.ChangeWithin.{IsImage, pointed_step}
use Rattle.vg_device.specs.State.{State}
use Rattle.vg_device.specs.Answered.{answered_by}
use Rattle.vg_device.specs.Step.{with_cursor}

-- a scanout that there isn't has no cursor that is shown
pub hidden-past : (cursors : List Cursor) (scanout : ℕ) → length cursors ≤ scanout → (cursor_of cursors scanout).visible ≡ false
unfolding unset
hidden-past cursors scanout past = ap (λ (cursor : Cursor). cursor.visible) (get_or_past cursors scanout unset past)

-- the cursor of a scanout that there is, once it is changed
pub cursor-changed : (change : Cursor → Cursor) (cursors : List Cursor) (scanout : ℕ) → scanout < length cursors → cursor_of (changed change scanout cursors) scanout ≡ change (cursor_of cursors scanout)
cursor-changed change cursors scanout there = get_or-set_same cursors scanout (change (cursor_of cursors scanout)) unset there

-- no frame may be made, so the cursor isn't changed
refused-by : {S : Type 0} (refusal : Option ℕ) (old new next : S) (done : Result (Unit {0}) ℕ) (code : ℕ) (state after : State) → ◌≡◌ {A = S × Result (Unit {0}) ℕ} (new, done) (unless_refused refusal old next) → done ≡ Err code
    → (new ≡ old) × (answered_by refusal state after ≡ (state, responses.Error code))
refused-by (Some other) old new next done code state after step is = (
  ap (λ pair. pair.0) step,
  ap (λ (n : ℕ). (state, responses.Error n)) (same (sym (ap (λ pair. pair.1) step) ∙ is)),
)
  where
    same : {a b : ℕ} → ◌≡◌ {A = Result (Unit {0}) ℕ} (Err a) (Err b) → a ≡ b
    same eq = cc
refused-by None old new next done code state after step is = absurd (apart (sym is ∙ ap (λ pair. pair.1) step))
  where
    apart : ◌≡◌ {A = Result (Unit {0}) ℕ} (Err code) (Ok tt) → ⊥
    apart eq = cc

pub pointed-refused : (state : State) (scanout : ℕ) (change : Cursor → Cursor) (cursors : List Cursor) (new : ScanoutState) (done : Result (Unit {0}) ℕ) (code : ℕ)
    → ◌≡◌ {A = ScanoutState × Result (Unit {0}) ℕ} (new, done) (snap state.entries cursors scanout state.scanouts) → done ≡ Err code
    → pointed_step state scanout change ≡ (record state { scanouts = new }, responses.Error code)
unfolding snap
pointed-refused state scanout change cursors new done code step is =
    let both = refused-by (refusal_of ((is_past_limit scanout state.scanouts, 0x1201) ∷ [])) state.scanouts new (snapped state.entries cursors scanout state.scanouts) done code state (with_cursor state scanout change) step is in
    both.1 ∙ ap (λ (ss : ScanoutState). (record state { scanouts = ss }, responses.Error code)) (sym both.0)

done-by : {S : Type 0} (refusal : Option ℕ) (old new next : S) (done : Result (Unit {0}) ℕ) (state after : State) → ◌≡◌ {A = S × Result (Unit {0}) ℕ} (new, done) (unless_refused refusal old next) → ((code : ℕ) → ◌≡◌ {A = Result (Unit {0}) ℕ} done (Err code) → ⊥)
    → (new ≡ next) × (answered_by refusal state after ≡ (after, responses.Nodata))
done-by (Some code) old new next done state after step fine = absurd (fine code (ap (λ pair. pair.1) step))
done-by None old new next done state after step fine = (ap (λ pair. pair.0) step, refl)

-- one may, and the cursor is changed
pub pointed-done : (state : State) (scanout : ℕ) (change : Cursor → Cursor) (cursors : List Cursor) (new : ScanoutState) (done : Result (Unit {0}) ℕ) → cursors ≡ changed change scanout state.cursors
    → ◌≡◌ {A = ScanoutState × Result (Unit {0}) ℕ} (new, done) (snap state.entries cursors scanout state.scanouts) → ((code : ℕ) → ◌≡◌ {A = Result (Unit {0}) ℕ} done (Err code) → ⊥)
    → pointed_step state scanout change ≡ (record state { cursors = cursors; scanouts = new }, responses.Nodata)
unfolding snap
pointed-done state scanout change cursors new done changed_is step fine =
    let both = done-by (refusal_of ((is_past_limit scanout state.scanouts, 0x1201) ∷ [])) state.scanouts new (snapped state.entries cursors scanout state.scanouts) done state (with_cursor state scanout change) step fine in
    both.1
    ∙ ap (λ (cs : List Cursor). (record state { cursors = cs; scanouts = snapped state.entries cs scanout state.scanouts }, responses.Nodata)) (sym changed_is)
    ∙ ap (λ (ss : ScanoutState). (record state { cursors = cursors; scanouts = ss }, responses.Nodata)) (sym both.0)

-- whatever comes of it, the screens stay
screens-by : (refusal : Option ℕ) (old new next : ScanoutState) (done : Result (Unit {0}) ℕ) → ◌≡◌ {A = ScanoutState × Result (Unit {0}) ℕ} (new, done) (unless_refused refusal old next) → next.screens ≡ old.screens
    → new.screens ≡ old.screens
screens-by (Some code) old new next done step same = ap (λ pair. pair.0.screens) step
screens-by None old new next done step same = ap (λ pair. pair.0.screens) step ∙ same

pub screens-snapped : (entry scanout : ℕ) (cursors : List Cursor) (old new : ScanoutState) (done : Result (Unit {0}) ℕ) → ◌≡◌ {A = ScanoutState × Result (Unit {0}) ℕ} (new, done) (snap entry cursors scanout old)
    → new.screens ≡ old.screens
unfolding snap
screens-snapped entry scanout cursors old new done step =
    screens-by (refusal_of ((is_past_limit scanout old, 0x1201) ∷ [])) old new (snapped entry cursors scanout old) done step refl

-- a resource of the right size gives an image
pub image-is : (resource : Resource) (hot_x hot_y : ℕ) (image : List ℕ) → IsWhole resource → resource.width ≡ 64 → resource.height ≡ 64 → hot_x < 64 → hot_y < 64 → image ≡ shown_row resource.format resource.pixels
    → IsImage (Some resource) hot_x hot_y image
unfolding shown_row
image-is resource hot_x hot_y image whole wide high left top is =
    let test : not (resource.width == 64 && resource.height == 64 && nat_lt hot_x 64 && nat_lt hot_y 64) ≡ false = grind (arith, nat_tests, wide, high, left, top) in
    let long : length image ≡ length resource.pixels = ap length is ∙ length-tabulate (shown_byte resource.format resource.pixels) (length resource.pixels) in
    let size : length resource.pixels ≡ 4 * 64 * 64 = whole.0 ∙ ap (λ (n : ℕ). 4 * n * resource.height) wide ∙ ap (λ (n : ℕ). 4 * 64 * n) high in
    record {
      accepted = ap (λ (b : Bool). refusal_of ((false, 0x1203) ∷ (b, 0x1205) ∷ [])) test;
      shown = is;
      size = omega (arith, long, size);
      hot_x_on = left;
      hot_y_on = top;
    }
