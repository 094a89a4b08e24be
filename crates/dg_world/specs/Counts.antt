-- Boards that go on: none stops, and no count of faults rises (docs/ARCHITECTURE.md, "The way of a script line").
use Rattle.std.specs.Prelude.{◌≡◌, ℕ, ◌<◌, false, List, slice_get, Some}
use Rattle.dg_nor.specs.Device.{Device}

-- no board's count rose
abbrev pub NoneRose : List Device → List Device → Type 0
NoneRose old new = (m : ℕ) (a b : Device) → slice_get old m ≡ Some a → slice_get new m ≡ Some b → b.faults ≡ a.faults

-- A board did not stop, and its count did not rise.
pub record IsSteady (old new : Device) : Type 0 where
  pub faults : new.faults ≡ old.faults
  pub stopped : new.stopped ≡ old.stopped

-- no board stopped, and no board's count rose
abbrev pub AreSteady : List Device → List Device → Type 0
AreSteady old new = (m : ℕ) (a b : Device) → slice_get old m ≡ Some a → slice_get new m ≡ Some b → IsSteady a b

-- no board of these first motes is stopped
abbrev pub AreAwake : (motes : ℕ) → List Device → Type 0
AreAwake motes boards = (m : ℕ) (d : Device) → m < motes → slice_get boards m ≡ Some d → d.stopped ≡ false
