-- When something of a mote of a world is due (docs/SCRIPTS.md, "What events do").
use Rattle.std.specs.Prelude.{ℕ, Option, option_map}
use Rattle.dg_mote.specs.Dues.{due_of}
use Rattle.dg_rules.specs.World.{World, site, store_at}

-- the moment before which a tick of a mote changes nothing and sends nothing, None where it is off
unfoldable pub due_at : World → ℕ → Option ℕ
due_at w m = option_map (λ r. due_of r.mote (store_at w m)) (site w m).runs
