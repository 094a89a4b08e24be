-- The node of a board that was started.
use Rattle.std.specs.Prelude.{◌≡◌, ℕ, Bool, List}
use Rattle.dg_volume.specs.Store.{Store}
use Rattle.dg_volume.specs.Stands.{Mounted}
use Rattle.dg_boot.specs.declared.Started.{Started}
use Rattle.dg_mote.specs.Model.{begun_mote}
use Rattle.dg_mote.specs.Motes.{IsMote}
use Rattle.dg_node.specs.declared.answers.Powered.{Powered}

-- a mote that was started over the volume of its chip, and what is reported of that
pub record BeginsOver (started : Started) (id : ℕ) (wide : Bool) (now word : ℕ) (p : Powered) : Type 0 where
  pub runs : p.node.image_version ≡ p.image.image_version
  pub version : p.image.image_version ≡ record { image = started.image; version = started.version }
  pub length : p.image.length ≡ started.length
  pub crc : p.image.crc ≡ started.crc
  pub mote : (c : List ℕ) (s : Store) → Mounted c started.volume s → IsMote c p.node.mote (begun_mote id wide now word) s
