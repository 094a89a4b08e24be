-- Frames on a line of bytes, and the items of a stream (RFC 1662, section 4.2).
use Rattle.std.specs.Prelude.{◌≡◌, ◌≢◌, ◌⊎◌, ℕ, ◌==◌, ◌&&◌, ◌||◌, ◌≤◌, not, nat_lt, Bool, true, false, if◌then◌else◌, List, []}
use Rattle.std.specs.Prelude.{◌∷◌, ◌++◌, length}
use Rattle.std.specs.List.{flat_map, AllByRecursion}
use Rattle.dg_base.specs.Sizes.{longest_frame}
use Rattle.dg_serial.specs.Sizes.{flag_byte, escape_byte, escaped_flag, escaped_escape}

-- ---- stuffing

-- a byte as it is on the line
abbrev pub stuffed_byte : ℕ → List ℕ
stuffed_byte b =
    if b == flag_byte then escape_byte ∷ escaped_flag ∷ []
    else (if b == escape_byte then escape_byte ∷ escaped_escape ∷ [] else b ∷ [])

-- bytes as they are on the line
abbrev pub escaped : List ℕ → List ℕ
escaped bytes = flat_map stuffed_byte bytes

-- a frame as it is on the line: a flag ends it
unfoldable pub stuffed : List ℕ → List ℕ
stuffed bytes = escaped bytes ++ flag_byte ∷ []

-- frames one after another
abbrev pub stuffed_line : List (List ℕ) → List ℕ
stuffed_line frames = flat_map stuffed frames

-- what may be a frame on the line
pub record IsOnLine (bytes : List ℕ) : Type 0 where
  pub some : bytes ≢ []
  pub most : length bytes ≤ longest_frame

-- ---- a stream is split at its flags

-- the pieces that flags end, and what follows the last flag
pub record FlagSplit : Type 0 where
  pub pieces : List (List ℕ)
  pub rest : List ℕ

abbrev pub onto_first : ℕ → List (List ℕ) → List ℕ → FlagSplit
onto_first b [] rest = record { pieces = []; rest = b ∷ rest }
onto_first b (piece ∷ pieces) rest = record { pieces = (b ∷ piece) ∷ pieces; rest = rest }

abbrev pub split_behind : ℕ → FlagSplit → FlagSplit
split_behind b c = if b == flag_byte then record { pieces = [] ∷ c.pieces; rest = c.rest } else onto_first b c.pieces c.rest

unfoldable pub flag_split : List ℕ → FlagSplit
flag_split [] = record { pieces = []; rest = [] }
flag_split (b ∷ bs) = split_behind b (flag_split bs)

abbrev pub flag_pieces : List ℕ → List (List ℕ)
flag_pieces stream = (flag_split stream).pieces

abbrev pub rest_after_flags : List ℕ → List ℕ
rest_after_flags stream = (flag_split stream).rest

abbrev pub HasNoFlag : List ℕ → Type 0
HasNoFlag bytes = AllByRecursion (λ b. b ≢ flag_byte) bytes

-- pieces, each with its flag
abbrev pub flagged : List (List ℕ) → List ℕ
flagged pieces = flat_map (λ piece. piece ++ flag_byte ∷ []) pieces

-- The stream is these pieces, each ended by a flag, and a rest. There is no other flag.
pub record IsSplit (stream : List ℕ) (c : FlagSplit) : Type 0 where
  pub whole : stream ≡ flagged c.pieces ++ c.rest
  pub pieces : AllByRecursion HasNoFlag c.pieces
  pub rest : HasNoFlag c.rest

-- ---- the item of a piece

-- what stands for the flag or the escape after an escape
abbrev pub is_escaped_byte : ℕ → Bool
is_escaped_byte b = (b == escaped_flag) || (b == escaped_escape)

-- Some escape is followed by a byte other than these. `escapes` is whether an escape comes before the bytes.
unfoldable pub is_broken_after : Bool → List ℕ → Bool
is_broken_after escapes [] = false
is_broken_after escapes (b ∷ bs) = (escapes && not (is_escaped_byte b)) || is_broken_after (b == escape_byte) bs

-- the last byte escapes what would follow
unfoldable pub ends_escaping : Bool → List ℕ → Bool
ends_escaping escapes [] = escapes
ends_escaping escapes (b ∷ bs) = ends_escaping (b == escape_byte) bs

-- some escape isn't followed, within the piece, by one of the two
abbrev pub is_broken : List ℕ → Bool
is_broken piece = is_broken_after false piece || ends_escaping false piece

-- the first of the bytes is one of the two
abbrev pub BeginsWithSecond : List ℕ → Type 0
BeginsWithSecond [] = ⊥
BeginsWithSecond (b ∷ bs) = (b ≡ escaped_flag) ⊎ (b ≡ escaped_escape)

-- an escape of the piece is not followed, within it, by one of the two
pub record HasLoneEscape (piece : List ℕ) : Type 0 where
  pub front : List ℕ
  pub back : List ℕ
  pub stands : piece ≡ front ++ escape_byte ∷ back
  pub alone : BeginsWithSecond back → ⊥

-- the byte for which this one stands after an escape
abbrev pub plain : ℕ → ℕ
plain b = if b == escaped_flag then flag_byte else (if b == escaped_escape then escape_byte else b)

-- the bytes for which those of a piece stand
unfoldable pub unstuffed_after : Bool → List ℕ → List ℕ
unstuffed_after escapes [] = []
unstuffed_after escapes (b ∷ bs) =
    if b == escape_byte then unstuffed_after true bs else (if escapes then plain b else b) ∷ unstuffed_after false bs

abbrev pub unstuffed : List ℕ → List ℕ
unstuffed piece = unstuffed_after false piece

pub data SerialItem : Type 0 where
  Frame : (bytes : List ℕ) → SerialItem
  Escape : SerialItem
  Long : SerialItem

abbrev pub item_in : List ℕ → SerialItem
item_in piece =
    if is_broken piece then Escape else (if nat_lt longest_frame (length (unstuffed piece)) then Long
    else Frame (unstuffed piece))

-- an empty piece yields nothing, and any other piece yields one item
abbrev pub item_of : List ℕ → List SerialItem
item_of [] = []
item_of (b ∷ bs) = item_in (b ∷ bs) ∷ []

-- the items of a stream. Its rest yields no item
unfoldable pub items : List ℕ → List SerialItem
items stream = flat_map item_of (flag_pieces stream)

-- the stream is made of pieces that aren't empty, and has no rest
pub record IsWholeStream (stream : List ℕ) : Type 0 where
  pub pieces : AllByRecursion (λ piece. piece ≢ []) (flag_pieces stream)
  pub ended : rest_after_flags stream ≡ []
