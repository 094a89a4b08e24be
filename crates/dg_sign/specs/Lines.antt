-- What is signed: a line that binds an image and a version to the root of its pages (docs/HOSTILE.md, "Signed images").
use Rattle.std.specs.Prelude.{ℕ, List, [], ◌∷◌, ◌++◌, codes, decimal}
use Rattle.dg_base.specs.Hexadecimal.{hex_text}

-- `deluge image I version V root HEX` and LF
unfoldable pub signed_line : (image version : ℕ) (root : List ℕ) → List ℕ
signed_line image version root =
    codes "deluge image " ++ decimal image ++ codes " version " ++ decimal version ++ codes " root " ++ hex_text root ++ 10 ∷ []
