-- The calls that define a name, and those that make a context.
use Rattle.std.specs.Prelude.{Bool, true, false}
use Rattle.vg_calls.specs.declared.call.Call.{Call}
use Rattle.vg_calls.specs.declared.call.Call.TheVariants as calls

abbrev pub defines : Call → Bool
defines (calls.Buffer width height format) = true
defines (calls.Blob size) = true
defines (calls.Import label token) = true
defines call = false

abbrev pub makes_context : Call → Bool
makes_context calls.Context = true
makes_context call = false
