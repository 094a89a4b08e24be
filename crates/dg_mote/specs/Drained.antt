-- Motes that are drained: nothing is left to do except to advertise what they keep (docs/PROMISES.md, "Laws over the
-- definitions alone").
use Rattle.std.specs.Prelude.{◌≡◌, ◌≢◌, ℕ, ◌≤◌, true, false}
use Rattle.dg_trickle.specs.Timer.{Timer}
use Rattle.dg_quiet.specs.Noted.{may_ask}
use Rattle.dg_volume.specs.Store.{Store, held}
use Rattle.dg_volume.specs.Start.{order_waits}
use Rattle.dg_mote.specs.Model.{Maintain}
use Rattle.dg_mote.specs.Spots.{Spot}

-- It maintains, nothing equal was heard in this interval, no short starts are counted, no order is pending, and from now on
-- it may ask for any image.
pub record Drained (x : Spot) (now : ℕ) : Type 0 where
  pub timer : Timer
  pub maintains : x.mote.mode ≡ Maintain timer
  pub unheard : timer.count ≡ 0
  pub gesture : x.store.gesture ≡ 0
  pub order : order_waits x.store ≡ false
  pub windows : (later i : ℕ) → now ≤ later → may_ask x.mote.noted later i ≡ true

-- what is kept is as before
abbrev pub SameKept : Store → Store → Type 0
SameKept s t = (i : ℕ) → held t i ≡ held s i

-- and of all images but one
abbrev pub KeptBut : ℕ → Store → Store → Type 0
KeptBut j s t = (i : ℕ) → i ≢ j → held t i ≡ held s i

-- the commits that a round needs to be left at its end
abbrev pub spare_room : ℕ
spare_room = 3

abbrev pub HasRoom : Spot → Type 0
HasRoom x = spare_room ≤ x.store.room
