use Rattle.std.proofs.Common.{◌≡◌, ℕ, List, [], ◌∷◌, ◌++◌, OnOk, subst}
use Rattle.std.specs.Prelude.{codes}
use Rattle.std.specs.Fmt.{decimal}
use Rattle.dg_words.specs.Lists.{concatenated}
use Rattle.dg_layout.specs.Layout.{middle, lane_bottom}
use Rattle.dg_picture.proofs.rows.push_row.Goals as goal

abbrev named : (middle mote bottom right : ℕ) → List ℕ
named middle mote bottom right =
    concatenated (codes "<text x=\"92\" y=\"" ∷ decimal middle ∷ codes "\" class=\"m\">mote "
    ∷ decimal mote ∷ codes "</text><path class=\"r\" d=\"M100 " ∷ decimal bottom ∷ codes "H"
    ∷ decimal right ∷ codes "\"/>\n" ∷ [])

pub returns : goal.returns
returns c =
    let at = middle c.args.frame c.args.mote in
    let bottom = lane_bottom c.args.frame c.args.mote c.args.frame.images in
    subst (λ (n : ℕ). OnOk c.push_pieces.result (c.push_pieces.new.out.items ≡ c.args.out.now.items ++ named at c.args.mote bottom n)) c.right_of.ensures
    (subst (λ (n : ℕ). OnOk c.push_pieces.result (c.push_pieces.new.out.items ≡ c.args.out.now.items ++ named at c.args.mote n c.right_of.result)) c.bottom_of.ensures
    (subst (λ (n : ℕ). OnOk c.push_pieces.result (c.push_pieces.new.out.items ≡ c.args.out.now.items ++ named n c.args.mote c.bottom_of.result c.right_of.result))
    c.middle_of.ensures c.push_pieces.ensures))
