use Rattle.std.proofs.Common.{◌≡◌, ◌++◌, replicate, string_bytes}
use Rattle.vg_gen.specs.Generated.{display, text_of}
use Rattle.vg_gen.proofs.text.put_displays.Given as goal

abbrev pub invariant-loop-display : goal.invariant-loop-display
invariant-loop-display l = string_bytes l.text ≡ string_bytes l.initial.text ++ text_of (replicate l._display display)
