use Rattle.dg_sign.proofs.TextLemmas.{characters_of}
use Rattle.dg_sign.proofs.keys.characters.Goals as goal

pub returns : goal.returns
returns c =
    characters_of c.args.line.now c.new-characters.result.items c.extend_from_slice.new.self.items c.extend_from_slice-2.new.self.items
    c.new-characters.ensures.items c.in_ok-extend_from_slice.ensures.items c.in_ok-extend_from_slice-2.ensures.items
