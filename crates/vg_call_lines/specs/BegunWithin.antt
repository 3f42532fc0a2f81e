-- The words of a timeline, and what is read of a body, as the code has them.
use Rattle.std.specs.Prelude.{ℕ, List, Option, option_map, Result, Ok, Err}
use denote.Ref.{Bor}
use Rattle.vg_script_words.specs.declared.kind.Stop.{Stop}
use Rattle.vg_calls.specs.declared.call.Body.{Body}
use Rattle.vg_calls.specs.declared.call.Call.{Call}
use Rattle.vg_call_lines.specs.Rows.{call_of_body}

abbrev pub words_now : Option (Bor (List ℕ) × Bor (List ℕ)) → Option (List ℕ × List ℕ)
words_now on = option_map (λ words. (words.0.now, words.1.now)) on

-- A body as a call of its own.
abbrev pub call_read : Result Body Stop → Result Call Stop
call_read (Ok body) = Ok (call_of_body body)
call_read (Err stop) = Err stop
