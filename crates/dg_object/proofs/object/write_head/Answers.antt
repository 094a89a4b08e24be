-- The four fields, each put after the ones before it.
use Rattle.std.proofs.Common.{[], ◌∷◌, ◌++◌, refl}
use Rattle.std.specs.Int.{to_be_bytes, w32}
use Rattle.dg_object.proofs.object.write_head.Goals as goal

pub returns : goal.returns
returns c =
    let tag = 68 ∷ 71 ∷ c.args.image ∷ c.args.pages ∷ [] in
    let tagged = c.put_behind.ensures [] refl c.blank.ensures in
    let versioned = c.put_word.ensures tag refl tagged in
    let measured = c.put_word-2.ensures (tag ++ to_be_bytes w32 c.args.version) refl versioned in
    rw c.name_field.ensures at (c.put_behind-2.ensures (tag ++ to_be_bytes w32 c.args.version ++ to_be_bytes w32 c.args.len) refl measured)
