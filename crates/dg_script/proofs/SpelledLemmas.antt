-- What a text spells may stand at its place, has its fields in their ranges, and is one of the lines that are played.
use Rattle.std.proofs.Common.{◌≡◌, ℕ, Bool, true, false, List, [], ◌∷◌, if◌then◌else◌, subst}
use Rattle.std.specs.Prelude.{Result, Ok, nat_le, length}
use Rattle.dg_script.specs.Sizes.{most_line}
use Rattle.dg_script.specs.Results.{◌>>=◌, allowed_if}
use Rattle.dg_script.specs.Words.{words_of}
use Rattle.dg_script.specs.Lines.{is_comment, played_verb, fields_of, said, line_of}
use Rattle.dg_script.specs.Fitting.{StandsAt, FitsLine, IsPlayed}
use Rattle.dg_script.specs.declared.fault.LineFault.{LineFault}
use Rattle.dg_script.specs.declared.fault.LineFault.TheVariants as fault
use Rattle.dg_script.specs.declared.line.Line.{Line}
use Rattle.dg_script.specs.declared.line.Line.TheVariants.{Nothing}
use Rattle.dg_script.specs.declared.place.Place.{Place}
use Rattle.dg_script.proofs.ResultLemmas.{bound}
use Rattle.dg_script.proofs.LineLemmas.{played_verb-plays, read_stands, read_fits, read_plays}

pub record IsSpelled (place : Place) (line : Line) : Type 0 where
  pub stands : StandsAt place line
  pub fits : FitsLine place.motes line
  pub played : IsPlayed line

same_line : (a b : Line) → (let x : Result Line LineFault = Ok a in x ≡ Ok b) → a ≡ b
same_line a b e = cc

nothing_spelled : (place : Place) (line : Line) → (let x : Result Line LineFault = Ok Nothing in x ≡ Ok line) → IsSpelled place line
nothing_spelled place line e = subst (IsSpelled place) (same_line Nothing line e) (record { stands = tt; fits = tt; played = tt })

verb_spelled : (place : Place) (word : List ℕ) (fields : List (List ℕ)) (line : Line) → (played_verb word >>= λ v. fields_of v place fields) ≡ Ok line → IsSpelled place line
verb_spelled place word fields line e =
    let b = bound (played_verb word) (λ v. fields_of v place fields) line e in
    record {
      stands = read_stands b.0 place fields (Ok line) b.2;
      fits = read_fits b.0 place fields (Ok line) b.2;
      played = read_plays b.0 place fields (Ok line) (played_verb-plays word b.0 b.1) b.2;
    }

word_spelled : (comment : Bool) (place : Place) (word : List ℕ) (fields : List (List ℕ)) (line : Line) → (if comment then Ok Nothing else (played_verb word >>= λ v. fields_of v place fields)) ≡ Ok line → IsSpelled place line
word_spelled true place word fields line e = nothing_spelled place line e
word_spelled false place word fields line e = verb_spelled place word fields line e

said_spelled : (place : Place) (words : List (List ℕ)) (line : Line) → said place words ≡ Ok line → IsSpelled place line
said_spelled place [] line e = nothing_spelled place line e
said_spelled place (word ∷ fields) line e = word_spelled (is_comment word) place word fields line e

pub is_spelled : (place : Place) (text : List ℕ) (line : Line) → line_of place text ≡ Ok line → IsSpelled place line
unfolding line_of
is_spelled place text line e =
    let b = bound (allowed_if (nat_le (length text) most_line) fault.Long) (λ u. said place (words_of text)) line e in
    said_spelled place (words_of text) line b.2
