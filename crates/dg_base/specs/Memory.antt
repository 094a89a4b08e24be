-- An input and an output in memory, as contracts see them (`MemSource` and `MemSink` of this crate).
use Rattle.std.specs.Prelude.{ℕ, List}

-- The bytes left, the numbers of the calls that fail, how many calls were made, and how many failed.
pub record Input : Type 0 where
  pub left : List ℕ
  pub failing : List ℕ
  pub calls : ℕ
  pub faults : ℕ

-- The bytes written, how many may be written in all, and the same three.
pub record Output : Type 0 where
  pub written : List ℕ
  pub limit : ℕ
  pub failing : List ℕ
  pub calls : ℕ
  pub faults : ℕ
