-- The texts that are the same in each picture (docs/COMMANDS.md, "A picture of a report").
use Rattle.std.specs.Prelude.{ℕ, ◌+◌, ◌/◌, ◌%◌, ◌==◌, nat_lt, List, [], ◌∷◌, ◌++◌, codes, if◌then◌else◌}
use Rattle.std.specs.Fmt.{decimal}
use Rattle.std.specs.List.{flat_map}
use Rattle.dg_story.specs.declared.reports.Mark.{Mark}
use Rattle.dg_story.specs.declared.reports.Mark.TheVariants as mark
use Rattle.dg_picture.specs.declared.pieces.Piece.{Piece}
use Rattle.dg_picture.specs.declared.pieces.Piece.TheVariants as piece
use Rattle.dg_picture.specs.declared.texts.TheConstants.{LEGEND}
use Rattle.dg_layout.specs.Layout.{height_to}
use Rattle.dg_words.specs.Lists.{concatenated}

-- the form of a mark, from the left end of its lane's bottom: a triangle for a start, a diamond for an order, a cross for a
-- loss of power
abbrev pub form_of : Mark → List ℕ
form_of (mark.Started image) = codes "l4-7 4 7z"
form_of (mark.Ordered image) = codes "m0-8l4 4-4 4-4-4z"
form_of mark.Lost = codes "m-3-7l6 6m0-6l-6 6"

abbrev pub class_of : Mark → List ℕ
class_of (mark.Started image) = concatenated (codes "s" ∷ decimal image ∷ [])
class_of (mark.Ordered image) = concatenated (codes "o" ∷ decimal image ∷ [])
class_of mark.Lost = codes "x"

-- title, colours and legend
unfoldable pub legend : List ℕ
legend = LEGEND.now

abbrev pub first_text : (foot : ℕ) → List ℕ
first_text foot =
    concatenated (codes "<svg xmlns=\"http://www.w3.org/2000/svg\" width=\"1600\" height=\"" ∷ decimal (height_to foot)
    ∷ codes "\" viewBox=\"0 0 1600 " ∷ decimal (height_to foot) ∷ codes "\" role=\"img\">\n" ∷ [])

unfoldable pub head_text : (foot : ℕ) → List ℕ
head_text foot = first_text foot ++ legend

-- ---- numbers

-- a number with at least two digits, and with at least three
abbrev pub two_text : ℕ → List ℕ
two_text n = (if nat_lt n 10 then 48 ∷ [] else []) ++ decimal n

abbrev pub three_text : ℕ → List ℕ
three_text n = (if nat_lt n 100 then 48 ∷ [] else []) ++ two_text n

-- hours and minutes, or minutes alone where there is no hour
abbrev pub minutes_text : (ms : ℕ) → List ℕ
minutes_text ms =
    if nat_lt ms 3600000 then decimal (ms / 60000)
    else concatenated (decimal (ms / 3600000) ∷ codes ":" ∷ two_text (ms / 60000 % 60) ∷ [])

-- the milliseconds after a full second, where there are any
abbrev pub rest_text : (ms : ℕ) → List ℕ
rest_text ms = if ms % 1000 == 0 then [] else concatenated (codes "." ∷ three_text (ms % 1000) ∷ [])

-- a moment: hours, minutes, seconds, and milliseconds where there are any
unfoldable pub moment_text : (ms : ℕ) → List ℕ
moment_text ms =
    minutes_text ms ++ (concatenated (codes ":" ∷ two_text (ms / 1000 % 60) ∷ []) ++ rest_text ms)

-- the texts of pieces
abbrev pub piece_text : Piece → List ℕ
piece_text (piece.Text text) = text.now
piece_text (piece.Number n) = decimal n
piece_text (piece.Small n) = decimal n
piece_text (piece.Long n) = decimal n
piece_text (piece.Two n) = two_text n
piece_text (piece.Three n) = three_text n

abbrev pub pieces_text : List Piece → List ℕ
pieces_text pieces = flat_map piece_text pieces
