use Rattle.dg_nor.specs.Backing.{cells_image}
use Rattle.dg_nor.proofs.FileLemmas.{Mirrors-told}
use Rattle.dg_nor.proofs.laws.a_file_has_the_bytes_of_its_board.Goals as goal

pub returns : goal.returns
returns c =
    let backed = c.args._board.now.backed in
    Mirrors-told backed.backing (cells_image backed.cells) backed.mirrored
