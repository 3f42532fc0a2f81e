-- The screen has the pixels of its rectangle, wherever they stand.
use Rattle.std.proofs.Common.{◌≡◌, ℕ, List, [], ◌∷◌, length, ap, sym, ◌∙◌}
use Rattle.std.specs.Option.{option_copied}
use Rattle.vg_cursor.specs.Blended.{blended}
use Rattle.vg_cursor.specs.Look.{cursor_like}
use Rattle.vg_scanout.specs.declared.scanout.Frame.{Frame}
use Rattle.vg_scanout.specs.Panels.{pixels_in}
use Rattle.vg_scanout.proofs.flush.frame_of.Goals as goal
use Rattle.vg_scanout.proofs.flush.frame_of.Goals.{in-Some+in_ok-pixels-in-Some, in-None+in_ok-blank-in-None+in_ok-screen-in-None+in_ok-pixels-in-None}

pub with_cursor-requires-clause-pixels : goal.with_cursor-requires-clause-pixels
with_cursor-requires-clause-pixels c =
    let own : c.in-Some.screen.now ≡ pixels_in c.args.frames.now c.args.panel.now = c.strips.ensures c.in-Some.screen.now (ap option_copied c.in-Some.is) in
    ap length own ∙ c.requires.panel.1.0

pub returns : goal.returns
returns c = λ cursors like.
    let panel = c.args.panel.now in
    let width = panel.binding.rect.width in
    let own = pixels_in c.args.frames.now panel in
    let with_it : List ℕ → List Frame =
    λ pixels. record { scanout = c.args.scanout; width = width; height = panel.binding.rect.height; entry = c.args.entry; pixels = pixels } ∷ []
    in
    let pixels : c.match-strips.pixels ≡ blended (cursor_like c.args.look.now) width own =
    elim c.match-strips.branch [
      | in-Some+in_ok-pixels-in-Some w ↦
          w.pixels-is ∙ w.in_ok-pixels-in-Some.ensures
          ∙ ap (blended (cursor_like c.args.look.now) width) (c.strips.ensures w.in-Some.screen.now (ap option_copied w.in-Some.is))
      | in-None+in_ok-blank-in-None+in_ok-screen-in-None+in_ok-pixels-in-None w ↦
          w.pixels-is ∙ w.in_ok-pixels-in-None.ensures
          ∙ ap (blended (cursor_like c.args.look.now) width) (w.in_ok-screen-in-None.ensures ∙ w.as_slice.ensures.value ∙ w.in_ok-blank-in-None.ensures)
    ]
    in
    ap (λ (frame : Frame). frame ∷ []) c.framed.ensures
    ∙ ap with_it (pixels ∙ ap (λ cursor. blended cursor width own) (sym like))
