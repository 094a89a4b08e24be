-- Files that come in pieces.
use Rattle.std.proofs.Common.{◌≡◌, ◌≢◌, ℕ, ◌+◌, ◌-◌, ◌<◌, ◌≤◌, ◌==◌, Bool, true, false, is_some, get_or, List, [], ◌∷◌, ◌++◌, length, take, drop, append_assoc, All, Option, Some, None, Result, Ok, Err, refl, sym, ap, ◌∙◌, subst, arith, inl, inr}
use Rattle.std.proofs.Math.Seq.{take-add, take-append_seam}
use Rattle.std.proofs.lemmas.Bool.{eqb-false, eqb-true, ne_eqb}
use Rattle.std.proofs.lemmas.List.{append-nil, length-append, length-drop, length-take, length_push, take-append-drop, take-take, take_all}
use Rattle.std.proofs.lemmas.List.Elements.{All-nil, All-append, All-cons}
use Rattle.std.specs.Str.Lines.{lines, strip_carriage_return}
use Rattle.dg_base.specs.Texts.{IsEnded}
use Rattle.dg_base.proofs.LineLemmas.{lines-ended, lines-last}
use Rattle.dg_ihex.specs.declared.faults.HexFileFault.{HexFileFault}
use Rattle.dg_ihex.specs.declared.faults.HexCause.TheVariants.{Memory}
use Rattle.dg_ihex.specs.declared.reader.Numbered.{Numbered}
use Rattle.dg_ihex.specs.declared.stream.Stream.{Stream}
use Rattle.dg_ihex.specs.Files.{cause_of, ended, file_from, hex_file, record_in, records_of, unless}
use Rattle.dg_ihex.specs.Readers.{Behind, Judges, ReaderStands}
use Rattle.dg_ihex.specs.Streams.{Advances, FedBy, Going, HasFault, SaysAlike, Stays, TellsFault}
use Rattle.dg_ihex.proofs.FileLemmas.{records_of-more}
use Rattle.dg_ihex.proofs.LongLemmas.{stays_same, stays_trans, stays_more}

abbrev Bare : List ℕ → Type 0
Bare bytes = All (λ b. (b == 10) ≡ false) bytes

-- ---- no byte

pub going_nothing : (stream : Stream) → Behind stream.numbered [] → stream.kept.items ≡ [] → Going stream []
unfolding hex_file
going_nothing stream h none = record {
  before = [];
  line = [];
  file = λ rest. refl;
  counted = omega arith;
  bare = All-nil (λ b. (b == 10) ≡ false);
  behind = h;
  stays = subst (λ t. Stays t []) (sym none) (stays_same []);
}

-- ---- bytes of the open line

pub going_more : (old new : Stream) (input bytes : List ℕ) → Going old input → Bare bytes → new.numbered ≡ old.numbered → new.kept.items ≡ old.kept.items ++ bytes → Going new (input ++ bytes)
going_more old new input bytes g bare same more = record {
  before = g.before;
  line = g.line ++ bytes;
  file = λ rest. ap (λ t. file_from g.before (lines t)) (append_assoc g.line bytes rest) ∙ g.file (bytes ++ rest) ∙ ap hex_file (sym (append_assoc input bytes rest));
  counted = (let c = g.counted in omega (arith, length-append input bytes, c));
  bare = All-append (λ b. (b == 10) ≡ false) g.line bytes g.bare bare;
  behind = subst (λ n. Behind n g.before) (sym same) g.behind;
  stays = subst (λ t. Stays t (g.line ++ bytes)) (sym more) (stays_more old.kept.items g.line bytes g.stays);
}

pub going_short : (old new : Stream) (input : List ℕ) → Going old input → new.numbered ≡ old.numbered → Stays new.kept.items old.kept.items → Going new input
going_short old new input g same short = record {
  before = g.before;
  line = g.line;
  file = g.file;
  counted = g.counted;
  bare = g.bare;
  behind = subst (λ n. Behind n g.before) (sym same) g.behind;
  stays = stays_trans new.kept.items old.kept.items g.line short g.stays;
}

-- ---- a line that is ended

pub file_more : (before : List (List ℕ)) (text : List ℕ) (texts : List (List ℕ)) → cause_of before text ≡ None → file_from before (text ∷ texts) ≡ file_from (before ++ text ∷ []) texts
unfolding file_from
file_more before text texts fine = ap (λ o. unless o before (file_from (before ++ text ∷ []) texts)) fine

-- the file continues with the line
file_line : (before : List (List ℕ)) (line bytes rest input : List ℕ) → ((rest : List ℕ) → file_from before (lines (line ++ rest)) ≡ hex_file (input ++ rest)) → Bare line → Bare bytes
    → unless (cause_of before (strip_carriage_return (line ++ bytes))) before (file_from (before ++ strip_carriage_return (line ++ bytes) ∷ []) (lines rest)) ≡ hex_file ((input ++ bytes ++ 10 ∷ []) ++ rest)
unfolding file_from
file_line before line bytes rest input file a b =
    let whole : line ++ (bytes ++ 10 ∷ rest) ≡ (line ++ bytes) ++ 10 ∷ rest = sym (append_assoc line bytes (10 ∷ rest)) in
    let all : ((input ++ bytes) ++ 10 ∷ []) ++ rest ≡ input ++ (bytes ++ 10 ∷ rest) = append_assoc (input ++ bytes) (10 ∷ []) rest ∙ append_assoc input bytes (10 ∷ rest) in
    ap (file_from before) (sym (lines-ended (line ++ bytes) rest (All-append (λ c. (c == 10) ≡ false) line bytes a b)))
    ∙ ap (λ t. file_from before (lines t)) (sym whole) ∙ file (bytes ++ 10 ∷ rest) ∙ ap hex_file (sym all)

behind_alike : (numbered : Numbered) (before : List (List ℕ)) (x y : List ℕ) → record_in x ≡ record_in y → Behind numbered (before ++ x ∷ []) → Behind numbered (before ++ y ∷ [])
behind_alike numbered before x y same h = record {
  number = (let n = h.number in omega (arith, n, length_push before x, length_push before y));
  stands = subst (ReaderStands numbered.reader) (records_of-more before x ∙ ap (λ r. records_of before ++ r) same ∙ sym (records_of-more before y)) h.stands;
}

-- a result for the line that is kept is one for the line
judges_alike : {A : Type 0} (r : Result A HexFileFault) (before : List (List ℕ)) (x y : List ℕ) (P Q : Type 0) → SaysAlike x y → (P → Q) → Judges r before x P → Judges r before y Q
judges_alike (Ok a) before x y P Q same move h = (sym (same.causes before) ∙ h.0, move h.1)
judges_alike (Err fault) before x y P Q same move h =
    (λ other later. ap (λ o. unless o before later) (sym (same.causes before)) ∙ h.0 other later, h.1)

going_ended : (old new : Stream) (input bytes : List ℕ) → (g : Going old input) → Bare bytes → new.kept.items ≡ []
    → cause_of g.before (strip_carriage_return (g.line ++ bytes)) ≡ None → Behind new.numbered (g.before ++ strip_carriage_return (g.line ++ bytes) ∷ []) → Going new (input ++ bytes ++ 10 ∷ [])
going_ended old new input bytes g bare none fine behind =
    let text = strip_carriage_return (g.line ++ bytes) in
    record {
      before = g.before ++ text ∷ [];
      line = [];
      file = λ rest. ap (λ o. unless o g.before (file_from (g.before ++ text ∷ []) (lines rest))) (sym fine) ∙ file_line g.before g.line bytes rest input g.file g.bare bare;
      counted = (let c = g.counted in omega (arith, c, length_push g.before text, length-append (input ++ bytes) (10 ∷ []), length-append input bytes));
      bare = All-nil (λ b. (b == 10) ≡ false);
      behind = behind;
      stays = subst (λ t. Stays t []) (sym none) (stays_same []);
    }

line_told : {A : Type 0} (r : Result A HexFileFault) (old new : Stream) (input bytes : List ℕ) → (g : Going old input) → Bare bytes → new.kept.items ≡ []
    → Judges r g.before (strip_carriage_return (g.line ++ bytes)) (Behind new.numbered (g.before ++ strip_carriage_return (g.line ++ bytes) ∷ []))
    → Advances r (input ++ bytes ++ 10 ∷ []) (Going new (input ++ bytes ++ 10 ∷ []))
line_told (Ok a) old new input bytes g bare none h = going_ended old new input bytes g bare none h.0 h.1
line_told (Err fault) old new input bytes g bare none h =
    (λ other rest. sym (file_line g.before g.line bytes rest input g.file g.bare bare) ∙ h.0 other (file_from (g.before ++ strip_carriage_return (g.line ++ bytes) ∷ []) (lines rest)), h.1)

-- for the line that is kept, with the bytes before its LF
pub line_ends : {A : Type 0} (r : Result A HexFileFault) (old new : Stream) (input bytes : List ℕ) → (g : Going old input) → Bare bytes → new.kept.items ≡ []
    → Judges r g.before (strip_carriage_return (old.kept.items ++ bytes)) (Behind new.numbered (g.before ++ strip_carriage_return (old.kept.items ++ bytes) ∷ []))
    → Advances r (input ++ bytes ++ 10 ∷ []) (Going new (input ++ bytes ++ 10 ∷ []))
line_ends r old new input bytes g bare none h =
    let text = strip_carriage_return (g.line ++ bytes) in
    let kept = strip_carriage_return (old.kept.items ++ bytes) in
    let same = g.stays.ended bytes in
    line_told r old new input bytes g bare none
    (judges_alike r g.before kept text (Behind new.numbered (g.before ++ kept ∷ [])) (Behind new.numbered (g.before ++ text ∷ [])) same (behind_alike new.numbered g.before kept text same.records) h)

-- the same for the bytes that were passed on
pub line_told_of : {A : Type 0} (r : Result A HexFileFault) (old new : Stream) (input bytes shown : List ℕ) → (g : Going old input) → Bare bytes → new.kept.items ≡ [] → shown ≡ old.kept.items ++ bytes
    → Judges r g.before (strip_carriage_return shown) (Behind new.numbered (g.before ++ strip_carriage_return shown ∷ []))
    → Advances r (input ++ bytes ++ 10 ∷ []) (Going new (input ++ bytes ++ 10 ∷ []))
line_told_of r old new input bytes shown g bare none is h =
    line_ends r old new input bytes g bare none
    (subst (λ x. Judges r g.before (strip_carriage_return x) (Behind new.numbered (g.before ++ strip_carriage_return x ∷ []))) is h)

-- ---- the bytes of a piece

-- those up to a place, and those from there to the next
pub piece_more : (input piece : List ℕ) (from next : ℕ) → from ≤ next → (input ++ take from piece) ++ take (next - from) (drop from piece) ≡ input ++ take next piece
piece_more input piece from next low =
    append_assoc input (take from piece) (take (next - from) (drop from piece))
    ∙ ap (λ t. input ++ t) (sym (take-add from (next - from) piece) ∙ ap (λ n. take n piece) (let e : from + (next - from) ≡ next = omega (arith, low) in e))

pub piece_whole : (input piece : List ℕ) (next : ℕ) → length piece ≤ next → input ++ take next piece ≡ input ++ piece
piece_whole input piece next high = ap (λ t. input ++ t) (take_all next piece high)

-- a line of the piece that LF ends, which may come after a CR
bare_of : (bytes : List ℕ) → All (λ b. b ≢ 10) bytes → Bare bytes
bare_of bytes h k d within = ne_eqb (get_or bytes k d) 10 (h k d within)

return_bare : Bare (13 ∷ [])
return_bare = All-cons (λ b. (b == 10) ≡ false) 13 [] refl (All-nil (λ b. (b == 10) ≡ false))

pub last_bare : (piece : List ℕ) (from end next : ℕ) → end ≡ next → All (λ b. b ≢ 10) (take (end - from) (drop from piece)) → Bare (take (next - from) (drop from piece))
last_bare piece from end next same h = subst (λ n. Bare (take (n - from) (drop from piece))) same (bare_of (take (end - from) (drop from piece)) h)

-- bytes that end in an LF, and those before it
front_is : (whole r : List ℕ) (n : ℕ) → whole ≡ r ++ 10 ∷ [] → n + 1 ≡ length whole → take n whole ≡ r
front_is whole r n is long =
    let count : n ≡ length r = omega (arith, long, ap length is, length_push r 10) in
    ap (take n) is ∙ ap (λ m. take m (r ++ 10 ∷ [])) count ∙ take-append_seam r (10 ∷ [])

record EndsBare (whole front : List ℕ) : Type 0 where
  whole_is : whole ≡ front ++ 10 ∷ []
  bare : Bare front

ends_bare : (whole r front : List ℕ) (n : ℕ) → whole ≡ r ++ 10 ∷ [] → n + 1 ≡ length whole → front ≡ take n whole → Bare r → EndsBare whole front
ends_bare whole r front n is long same bare =
    let e : r ≡ front = sym (front_is whole r n is long) ∙ sym same in
    record { whole_is = is ∙ ap (λ t. t ++ 10 ∷ []) e; bare = subst Bare e bare }

ended_bare : (whole text front : List ℕ) (n : ℕ) → IsEnded text whole → All (λ b. b ≢ 10) text → n + 1 ≡ length whole → front ≡ take n whole → EndsBare whole front
ended_bare whole text front n (inl is) h long same = ends_bare whole text front n is long same (bare_of text h)
ended_bare whole text front n (inr is) h long same =
    ends_bare whole (text ++ 13 ∷ []) front n (is ∙ sym (append_assoc text (13 ∷ []) (10 ∷ []))) long same (All-append (λ b. (b == 10) ≡ false) text (13 ∷ []) (bare_of text h) return_bare)

line_bare : (piece : List ℕ) (from end next : ℕ) → from < next → next ≤ length piece → IsEnded (take (end - from) (drop from piece)) (take (next - from) (drop from piece)) → All (λ b. b ≢ 10) (take (end - from) (drop from piece))
    → EndsBare (take (next - from) (drop from piece)) (take (next - 1 - from) (drop from piece))
line_bare piece from end next some within ended h =
    let n = next - 1 - from in
    let rest = drop from piece in
    let long : n + 1 ≡ length (take (next - from) rest) = omega (arith, some, within, length-take (next - from) rest, length-drop from piece) in
    ended_bare (take (next - from) rest) (take (end - from) rest) (take n rest) n ended h long (sym (take-take n (next - from) rest (omega (arith, some))))

pub front_bare : (piece : List ℕ) (from end next : ℕ) → from < next → next ≤ length piece → IsEnded (take (end - from) (drop from piece)) (take (next - from) (drop from piece)) → All (λ b. b ≢ 10) (take (end - from) (drop from piece))
    → Bare (take (next - 1 - from) (drop from piece))
front_bare piece from end next some within ended h = (line_bare piece from end next some within ended h).bare

pub line_piece : (input piece : List ℕ) (from end next : ℕ) → from < next → next ≤ length piece → IsEnded (take (end - from) (drop from piece)) (take (next - from) (drop from piece)) → All (λ b. b ≢ 10) (take (end - from) (drop from piece))
    → ((input ++ take from piece) ++ take (next - 1 - from) (drop from piece)) ++ 10 ∷ [] ≡ input ++ take next piece
line_piece input piece from end next some within ended h =
    let l = line_bare piece from end next some within ended h in
    append_assoc (input ++ take from piece) (take (next - 1 - from) (drop from piece)) (10 ∷ [])
    ∙ ap (λ t. (input ++ take from piece) ++ t) (sym l.whole_is) ∙ piece_more input piece from next (omega (arith, some))

pub room_before : (input piece : List ℕ) (from most : ℕ) → from < length piece → length input + length piece ≤ most + 1 → length (input ++ take from piece) ≤ most
room_before input piece from most some few = omega (arith, some, few, length-append input (take from piece), length-take from piece)

-- ---- the end of the input

no_line : (line : List ℕ) → length line ≤ 0 → line ≡ []
no_line [] h = refl
no_line (c ∷ line) h = absurd (omega arith)

none_open : (line kept : List ℕ) → Stays kept line → kept ≡ [] → length line ≤ 0
none_open [] kept h none = omega arith
none_open (c ∷ line) kept h none = let some = h.some (omega arith) in absurd (omega (arith, some, ap length none))

-- no line is open
pub file_ended : (stream : Stream) (input : List ℕ) → (g : Going stream input) → stream.kept.items ≡ [] → hex_file input ≡ ended g.before
unfolding file_from
file_ended stream input g none =
    let line : g.line ≡ [] = no_line g.line (none_open g.line stream.kept.items g.stays none) in
    ap hex_file (sym (append-nil input)) ∙ sym (g.file []) ∙ ap (λ t. file_from g.before (lines (t ++ []))) line

pub no_items : (items : List ℕ) (n : ℕ) (empty : Bool) → n ≡ length items → empty ≡ (n == 0) → empty ≡ true → items ≡ []
no_items items n empty is h e =
    let none : n ≡ 0 = eqb-true n 0 (sym h ∙ e) in
    no_line items (omega (arith, is, none))

pub some_items : (items : List ℕ) (n : ℕ) (empty : Bool) → n ≡ length items → empty ≡ (n == 0) → empty ≡ false → 0 < length items
some_items items n empty is h e =
    let some : n ≢ 0 = eqb-false n 0 (sym h ∙ e) in
    omega (arith, is, some)

-- a line is open
file_last : (stream : Stream) (input : List ℕ) → (g : Going stream input) → 0 < length stream.kept.items → unless (cause_of g.before g.line) g.before (ended (g.before ++ g.line ∷ [])) ≡ hex_file input
unfolding file_from
file_last stream input g some =
    ap (file_from g.before) (sym (lines-last g.line g.bare (g.stays.only some))) ∙ ap (λ t. file_from g.before (lines t)) (sym (append-nil g.line)) ∙ g.file [] ∙ ap hex_file (append-nil input)

abbrev nil_line : (kept line : List ℕ) → Stays kept line → SaysAlike kept line
nil_line kept line h = subst (λ x. SaysAlike x line) (append-nil kept) (subst (SaysAlike (kept ++ [])) (append-nil line) (h.last []))

-- the result for it
pub last_faulty : (stream : Stream) (input shown : List ℕ) (fault : HexFileFault) → (g : Going stream input) → shown ≡ stream.kept.items → 0 < length stream.kept.items
    → ((later : Result (List ℕ) HexFileFault) → unless (cause_of g.before shown) g.before later ≡ Err fault) → hex_file input ≡ Err fault
last_faulty stream input shown fault g is some h =
    let same = nil_line stream.kept.items g.line g.stays in
    let cause : cause_of g.before g.line ≡ cause_of g.before shown = sym (same.causes g.before) ∙ ap (cause_of g.before) (sym is) in
    sym (file_last stream input g some) ∙ ap (λ o. unless o g.before (ended (g.before ++ g.line ∷ []))) cause ∙ h (ended (g.before ++ g.line ∷ []))

pub last_fine : (stream : Stream) (numbered : Numbered) (input shown : List ℕ) → (g : Going stream input) → shown ≡ stream.kept.items → 0 < length stream.kept.items
    → cause_of g.before shown ≡ None → Behind numbered (g.before ++ shown ∷ [])
    → (hex_file input ≡ ended (g.before ++ g.line ∷ [])) × Behind numbered (g.before ++ g.line ∷ [])
last_fine stream numbered input shown g is some fine behind =
    let same = nil_line stream.kept.items g.line g.stays in
    let cause : cause_of g.before g.line ≡ None = sym (same.causes g.before) ∙ ap (cause_of g.before) (sym is) ∙ fine in (
      sym (file_last stream input g some) ∙ ap (λ o. unless o g.before (ended (g.before ++ g.line ∷ []))) cause,
      behind_alike numbered g.before shown g.line (ap record_in is ∙ same.records) behind,
    )

-- ---- faults

pub fault_more : (fault : HexFileFault) (input more : List ℕ) → TellsFault fault input → TellsFault fault (input ++ more)
fault_more fault input more h = (λ other rest. ap hex_file (append_assoc input more rest) ∙ h.0 other (more ++ rest), h.1)

pub fault_fed : (fault : HexFileFault) (input more : List ℕ) → HasFault fault input → HasFault fault (input ++ more)
fault_fed fault input more h rest = ap hex_file (append_assoc input more rest) ∙ h (more ++ rest)

pub fault_whole : (fault : HexFileFault) (input : List ℕ) → HasFault fault input → hex_file input ≡ Err fault
fault_whole fault input h = ap hex_file (sym (append-nil input)) ∙ h []

pub fault_piece : (fault : HexFileFault) (input piece : List ℕ) (next : ℕ) → TellsFault fault (input ++ take next piece) → TellsFault fault (input ++ piece)
fault_piece fault input piece next h =
    subst (TellsFault fault) (append_assoc input (take next piece) (drop next piece) ∙ ap (λ t. input ++ t) (take-append-drop next piece)) (fault_more fault (input ++ take next piece) (drop next piece) h)

-- ---- a reader

pub fed_fault : (o : Option HexFileFault) (fault : HexFileFault) (stream : Stream) (input : List ℕ) → o ≡ Some fault → FedBy o stream input → (fault.cause ≢ Memory) × HasFault fault input
fed_fault o fault stream input is h = subst (λ x. FedBy x stream input) is h

pub fed_going : (o : Option HexFileFault) (stream : Stream) (input : List ℕ) → o ≡ None → FedBy o stream input → Going stream input
fed_going o stream input is h = subst (λ x. FedBy x stream input) is h

pub fed_more : (o : Option HexFileFault) (stream : Stream) (input more : List ℕ) → is_some o ≡ true → FedBy o stream input → FedBy o stream (input ++ more)
fed_more None stream input more is h = absurd (let b : ⊥ = cc in b)
fed_more (Some fault) stream input more is h = (h.0, fault_fed fault input more h.1)

pub fed_none : (o : Option HexFileFault) (stream : Stream) (input : List ℕ) → is_some o ≡ false → FedBy o stream input → Going stream input
fed_none None stream input is h = h
fed_none (Some fault) stream input is h = absurd (let b : ⊥ = cc in b)

pub fed_still : (o : Option HexFileFault) (stream : Stream) (input : List ℕ) → is_some o ≡ false → Going stream input → FedBy o stream input
fed_still None stream input is h = h
fed_still (Some fault) stream input is h = absurd (let b : ⊥ = cc in b)
