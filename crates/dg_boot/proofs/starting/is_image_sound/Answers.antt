use Rattle.std.proofs.Common.{◌≡◌, Some, rules}
use Rattle.dg_volume.specs.Stands.{kept_at}
use Rattle.dg_boot.proofs.CaseLemmas.{first_crc}
use Rattle.dg_boot.proofs.starting.is_image_sound.Goals as goal

pub is_sound-requires-clause-first : goal.is_sound-requires-clause-first
is_sound-requires-clause-first g c =
    let s = c.requires.mounted.0 in
    let m = c.requires.mounted.1 in
    let told : kept_at c.args.volume.now c.args.image ≡ Some c.unwrap-kept.result = search rules in
    first_crc (g.N.Nor.device c.args.nor.now).image c.args.volume.now s c.args.image c.unwrap-kept.result c.requires.known_image m (c.requires.whole s m) told
