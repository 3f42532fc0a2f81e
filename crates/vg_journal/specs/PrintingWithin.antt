-- How much of a text has gone to a sink.
use Rattle.std.specs.Prelude.{ℕ, ◌≡◌, List, ◌++◌, Option}
use Rattle.vg_io.specs.Streams.{Takes}

-- All of this text was written but for its end, which is pending.
pub record Printed (held held' : Option (List ℕ)) (text pending : List ℕ) : Type 0 where
  pub front : List ℕ
  pub taken : Takes held held' front
  pub whole : front ++ pending ≡ text

-- A front of this text was written.
pub record PrintedSome (held held' : Option (List ℕ)) (text : List ℕ) : Type 0 where
  pub front : List ℕ
  pub rest : List ℕ
  pub taken : Takes held held' front
  pub whole : front ++ rest ≡ text
