-- From each last line exactly its end is read.
use Rattle.std.proofs.Common.{◌≡◌, ◌≢◌, ℕ, ◌<◌, ◌^◌, Bool, true, List, [], ◌∷◌, ◌++◌, Some, decimal, refl, ap, sym, ◌∙◌, arith, codes, append_assoc}
use Rattle.std.proofs.lemmas.List.{append-nil, append_cancel_right}
use Rattle.dg_base.specs.Hexadecimal.{hex_text}
use Rattle.dg_base.specs.Numbers.{number_of}
use Rattle.dg_base.specs.declared.answers.Status.TheVariants as statuses
use Rattle.dg_base.proofs.NumberLemmas.{number_of-decimal}
use Rattle.dg_base.proofs.HexLemmas.{length-hex_text}
use Rattle.dg_drip_script.specs.Lines.{line_fault}
use Rattle.dg_drip_script.specs.declared.line.DripFault.{DripFault}
use Rattle.dg_drip_script.specs.declared.line.DripFault.TheVariants as nodes
use Rattle.dg_ihex.specs.Causes.{cause_text}
use Rattle.dg_ihex.specs.declared.faults.HexCause.{HexCause}
use Rattle.dg_ihex.specs.declared.faults.HexCause.TheVariants as hex
use Rattle.dg_netcfg.specs.Faults.{profile_fault_text}
use Rattle.dg_netcfg.specs.declared.profile.ProfileFault.{ProfileFault}
use Rattle.dg_netcfg.specs.declared.profile.ProfileFault.TheVariants as profile
use Rattle.dg_script.specs.Faults.{fault_name}
use Rattle.dg_script.specs.Words.{split_of, words_of, behind_spaces}
use Rattle.dg_script.specs.declared.fault.LineFault.{LineFault}
use Rattle.dg_script.specs.declared.fault.LineFault.TheVariants as lines
use Rattle.dg_lines.proofs.WordsReadLemmas.{IsWord, words_spaced, number, hex_lacks}
use Rattle.dg_end.specs.Lines.{bad_line, last_line, refusal_text, status_of}
use Rattle.dg_end.specs.Texts.{line, numbers}
use Rattle.dg_end.specs.declared.ends.End.{End}
use Rattle.dg_end.specs.declared.ends.End.TheVariants as ends
use Rattle.dg_end.specs.declared.refusal.Refusal.{Refusal}
use Rattle.dg_end.specs.declared.refusal.Refusal.TheVariants as refusals
use Rattle.dg_messages.specs.LastLines.{or_zero, no_board_told, profile_end, hex_told, hex_end, script_end, bad_input_told, refused_told, refusal_end, has_last_line, last_line_told, end_told, RefusalFits, EndFits}
use Rattle.dg_messages.specs.declared.causes.Reads.{Reads}
use Rattle.dg_messages.specs.declared.causes.Reads.TheVariants as reads
use Rattle.dg_messages.specs.declared.causes.Refused.TheVariants as refused
use Rattle.dg_messages.specs.declared.causes.Told.TheVariants as told

-- ---- words

-- a text is what stands before the end of its line
before_end : (text other : List ℕ) → Some (line other) ≡ Some (line text) → text ≡ other
before_end text other e = sym (append_cancel_right other text (10 ∷ []) cc)

-- a line of a word, a number and a word
number_line_words : (first cause text : List ℕ) (n : ℕ) → IsWord first → IsWord cause → n < 2 ^ 32
    → Some (line (first ++ numbers (n ∷ []) ++ 32 ∷ cause)) ≡ Some (line text)
    → words_of text ≡ first ∷ decimal n ∷ cause ∷ []
number_line_words first cause text n is_first is_cause small e =
    let same : text ≡ first ++ numbers (n ∷ []) ++ 32 ∷ cause = before_end text (first ++ numbers (n ∷ []) ++ 32 ∷ cause) e in
    let spaced : first ++ numbers (n ∷ []) ++ 32 ∷ cause ≡ first ++ behind_spaces (decimal n ∷ cause ∷ []) =
    append_assoc first (numbers (n ∷ [])) (32 ∷ cause)
    ∙ ap (λ (d : List ℕ). first ++ 32 ∷ (d ++ 32 ∷ cause)) (append-nil (decimal n))
    ∙ ap (λ (c : List ℕ). first ++ 32 ∷ (decimal n ++ 32 ∷ c)) (sym (append-nil cause)) in
    ap words_of (same ∙ spaced) ∙ words_spaced first (decimal n ∷ cause ∷ []) is_first ((number n small).word, (is_cause, tt {0}))

-- ---- refusals

is_refused : IsWord (codes "refused")
is_refused = record { some = omega arith; whole = refl }

refusal_reads : (cause : Refusal) (text : List ℕ) → RefusalFits cause → Some (line (codes "refused " ++ refusal_text cause)) ≡ Some (line text)
    → refused_told (words_of text) ≡ told.Refused (refusal_end cause)
refusal_reads refusals.Empty text fits e =
    let words : words_of text ≡ codes "refused" ∷ codes "empty" ∷ [] =
    ap words_of (before_end text (codes "refused empty") e) ∙ words_spaced (codes "refused") (codes "empty" ∷ []) is_refused (record { some = omega arith; whole = refl }, tt {0}) in
    ap refused_told words
refusal_reads (refusals.TooLarge size) text fits e =
    let words : words_of text ≡ codes "refused" ∷ codes "toolarge" ∷ decimal size ∷ [] =
    ap words_of (before_end text (codes "refused toolarge" ++ numbers (size ∷ [])) e)
    ∙ words_spaced (codes "refused") (codes "toolarge" ∷ decimal size ∷ []) is_refused (record { some = omega arith; whole = refl }, ((number size fits).word, tt {0})) in
    ap refused_told words ∙ ap (λ n. told.Refused (refused.TooLarge (or_zero n))) (number_of-decimal size fits)
refusal_reads refusals.Reserved text fits e =
    let words : words_of text ≡ codes "refused" ∷ codes "reserved" ∷ [] =
    ap words_of (before_end text (codes "refused reserved") e) ∙ words_spaced (codes "refused") (codes "reserved" ∷ []) is_refused (record { some = omega arith; whole = refl }, tt {0}) in
    ap refused_told words
refusal_reads (refusals.Stale version) text fits e =
    let words : words_of text ≡ codes "refused" ∷ codes "stale" ∷ decimal version ∷ [] =
    ap words_of (before_end text (codes "refused stale" ++ numbers (version ∷ [])) e)
    ∙ words_spaced (codes "refused") (codes "stale" ∷ decimal version ∷ []) is_refused (record { some = omega arith; whole = refl }, ((number version fits).word, tt {0})) in
    ap refused_told words ∙ ap (λ n. told.Refused (refused.Stale (or_zero n))) (number_of-decimal version fits)
refusal_reads refusals.Taken text fits e =
    let words : words_of text ≡ codes "refused" ∷ codes "taken" ∷ [] =
    ap words_of (before_end text (codes "refused taken") e) ∙ words_spaced (codes "refused") (codes "taken" ∷ []) is_refused (record { some = omega arith; whole = refl }, tt {0}) in
    ap refused_told words
refusal_reads (refusals.Worn room) text fits e =
    let words : words_of text ≡ codes "refused" ∷ codes "worn" ∷ decimal room ∷ [] =
    ap words_of (before_end text (codes "refused worn" ++ numbers (room ∷ [])) e)
    ∙ words_spaced (codes "refused") (codes "worn" ∷ decimal room ∷ []) is_refused (record { some = omega arith; whole = refl }, ((number room fits).word, tt {0})) in
    ap refused_told words ∙ ap (λ n. told.Refused (refused.Worn (or_zero n))) (number_of-decimal room fits)
refusal_reads (refusals.OldOrder count) text fits e =
    let words : words_of text ≡ codes "refused" ∷ codes "oldorder" ∷ decimal count ∷ [] =
    ap words_of (before_end text (codes "refused oldorder" ++ numbers (count ∷ [])) e)
    ∙ words_spaced (codes "refused") (codes "oldorder" ∷ decimal count ∷ []) is_refused (record { some = omega arith; whole = refl }, ((number count fits).word, tt {0})) in
    ap refused_told words ∙ ap (λ n. told.Refused (refused.OldOrder (or_zero n))) (number_of-decimal count fits)
refusal_reads refusals.Absent text fits e =
    let words : words_of text ≡ codes "refused" ∷ codes "none" ∷ [] =
    ap words_of (before_end text (codes "refused none") e) ∙ words_spaced (codes "refused") (codes "none" ∷ []) is_refused (record { some = omega arith; whole = refl }, tt {0}) in
    ap refused_told words
refusal_reads (refusals.NotWhole done pages) text fits e =
    let words : words_of text ≡ codes "refused" ∷ codes "notwhole" ∷ decimal done ∷ decimal pages ∷ [] =
    ap words_of (before_end text (codes "refused notwhole" ++ numbers (done ∷ pages ∷ [])) e)
    ∙ words_spaced (codes "refused") (codes "notwhole" ∷ decimal done ∷ decimal pages ∷ []) is_refused
    (record { some = omega arith; whole = refl }, ((number done fits.0).word, ((number pages fits.1).word, tt {0}))) in
    ap refused_told words
    ∙ ap (λ n. told.Refused (refused.NotWhole (or_zero n) (or_zero (number_of (decimal pages))))) (number_of-decimal done fits.0)
    ∙ ap (λ n. told.Refused (refused.NotWhole done (or_zero n))) (number_of-decimal pages fits.1)
refusal_reads (refusals.Broken page kept found) text fits e =
    let small : page < 2 ^ 32 = fits.0 in
    let kept_word : IsWord (hex_text kept) = record { some = omega (arith, length-hex_text kept, fits.1); whole = hex_lacks kept } in
    let found_word : IsWord (hex_text found) = record { some = omega (arith, length-hex_text found, fits.2); whole = hex_lacks found } in
    let spaced : codes "refused broken" ++ numbers (page ∷ []) ++ 32 ∷ hex_text kept ++ 32 ∷ hex_text found
    ≡ codes "refused" ++ behind_spaces (codes "broken" ∷ decimal page ∷ hex_text kept ∷ hex_text found ∷ []) =
    ap (λ (d : List ℕ). codes "refused broken" ++ 32 ∷ ((d ++ 32 ∷ hex_text kept) ++ 32 ∷ hex_text found)) (append-nil (decimal page))
    ∙ ap (λ (t : List ℕ). codes "refused broken" ++ 32 ∷ t) (append_assoc (decimal page) (32 ∷ hex_text kept) (32 ∷ hex_text found))
    ∙ ap (λ (f : List ℕ). codes "refused broken" ++ 32 ∷ (decimal page ++ 32 ∷ (hex_text kept ++ 32 ∷ f))) (sym (append-nil (hex_text found))) in
    let words : words_of text ≡ codes "refused" ∷ codes "broken" ∷ decimal page ∷ hex_text kept ∷ hex_text found ∷ [] =
    ap words_of (before_end text (codes "refused broken" ++ numbers (page ∷ []) ++ 32 ∷ hex_text kept ++ 32 ∷ hex_text found) e ∙ spaced)
    ∙ words_spaced (codes "refused") (codes "broken" ∷ decimal page ∷ hex_text kept ∷ hex_text found ∷ []) is_refused
    (record { some = omega arith; whole = refl }, ((number page small).word, (kept_word, (found_word, tt {0})))) in
    ap refused_told words ∙ ap (λ n. told.Refused (refused.Broken (or_zero n))) (number_of-decimal page small)
refusal_reads refusals.Shape text fits e =
    let words : words_of text ≡ codes "refused" ∷ codes "shape" ∷ [] =
    ap words_of (before_end text (codes "refused shape") e) ∙ words_spaced (codes "refused") (codes "shape" ∷ []) is_refused (record { some = omega arith; whole = refl }, tt {0}) in
    ap refused_told words
refusal_reads (refusals.Foreign page) text fits e =
    let words : words_of text ≡ codes "refused" ∷ codes "foreign" ∷ decimal page ∷ [] =
    ap words_of (before_end text (codes "refused foreign" ++ numbers (page ∷ [])) e)
    ∙ words_spaced (codes "refused") (codes "foreign" ∷ decimal page ∷ []) is_refused (record { some = omega arith; whole = refl }, ((number page fits).word, tt {0})) in
    ap refused_told words ∙ ap (λ n. told.Refused (refused.Foreign (or_zero n))) (number_of-decimal page fits)

-- ---- inputs

is_line : IsWord (codes "line")
is_line = record { some = omega arith; whole = refl }

hex_word : (cause : HexCause) → IsWord (cause_text cause)
hex_word hex.Start = record { some = omega arith; whole = refl }
hex_word hex.Hex = record { some = omega arith; whole = refl }
hex_word hex.Count = record { some = omega arith; whole = refl }
hex_word hex.Check = record { some = omega arith; whole = refl }
hex_word hex.Kind = record { some = omega arith; whole = refl }
hex_word hex.Shape = record { some = omega arith; whole = refl }
hex_word hex.Overlap = record { some = omega arith; whole = refl }
hex_word hex.Span = record { some = omega arith; whole = refl }
hex_word hex.End = record { some = omega arith; whole = refl }
hex_word hex.Memory = record { some = omega arith; whole = refl }

script_word : (cause : LineFault) → IsWord (fault_name cause)
script_word lines.Verb = record { some = omega arith; whole = refl }
script_word lines.Few = record { some = omega arith; whole = refl }
script_word lines.Many = record { some = omega arith; whole = refl }
script_word lines.Number = record { some = omega arith; whole = refl }
script_word lines.Mote = record { some = omega arith; whole = refl }
script_word lines.Image = record { some = omega arith; whole = refl }
script_word lines.Version = record { some = omega arith; whole = refl }
script_word lines.Name = record { some = omega arith; whole = refl }
script_word lines.Content = record { some = omega arith; whole = refl }
script_word lines.Mask = record { some = omega arith; whole = refl }
script_word lines.Place = record { some = omega arith; whole = refl }
script_word lines.Cut = record { some = omega arith; whole = refl }
script_word lines.Long = record { some = omega arith; whole = refl }
script_word lines.Memory = record { some = omega arith; whole = refl }

nodes_word : (cause : DripFault) → IsWord (fault_name (line_fault cause))
nodes_word cause = script_word (line_fault cause)

hex_reads : (what : Reads) (cause : HexCause) (n : ℕ) → what ≢ reads.Nodes → n < 2 ^ 32
    → bad_input_told what (codes "line" ∷ decimal n ∷ cause_text cause ∷ []) ≡ hex_end what n cause
hex_reads reads.Nodes cause n other small = absurd (other refl)
hex_reads reads.Wrapped hex.Start n other small = ap (λ k. hex_told reads.Wrapped (or_zero k) hex.Start) (number_of-decimal n small)
hex_reads reads.Wrapped hex.Hex n other small = ap (λ k. hex_told reads.Wrapped (or_zero k) hex.Hex) (number_of-decimal n small)
hex_reads reads.Wrapped hex.Count n other small = ap (λ k. hex_told reads.Wrapped (or_zero k) hex.Count) (number_of-decimal n small)
hex_reads reads.Wrapped hex.Check n other small = ap (λ k. hex_told reads.Wrapped (or_zero k) hex.Check) (number_of-decimal n small)
hex_reads reads.Wrapped hex.Kind n other small = ap (λ k. hex_told reads.Wrapped (or_zero k) hex.Kind) (number_of-decimal n small)
hex_reads reads.Wrapped hex.Shape n other small = ap (λ k. hex_told reads.Wrapped (or_zero k) hex.Shape) (number_of-decimal n small)
hex_reads reads.Wrapped hex.Overlap n other small = ap (λ k. hex_told reads.Wrapped (or_zero k) hex.Overlap) (number_of-decimal n small)
hex_reads reads.Wrapped hex.Span n other small = ap (λ k. hex_told reads.Wrapped (or_zero k) hex.Span) (number_of-decimal n small)
hex_reads reads.Wrapped hex.End n other small = ap (λ k. hex_told reads.Wrapped (or_zero k) hex.End) (number_of-decimal n small)
hex_reads reads.Wrapped hex.Memory n other small = refl
hex_reads reads.Other hex.Start n other small = ap (λ k. hex_told reads.Other (or_zero k) hex.Start) (number_of-decimal n small)
hex_reads reads.Other hex.Hex n other small = ap (λ k. hex_told reads.Other (or_zero k) hex.Hex) (number_of-decimal n small)
hex_reads reads.Other hex.Count n other small = ap (λ k. hex_told reads.Other (or_zero k) hex.Count) (number_of-decimal n small)
hex_reads reads.Other hex.Check n other small = ap (λ k. hex_told reads.Other (or_zero k) hex.Check) (number_of-decimal n small)
hex_reads reads.Other hex.Kind n other small = ap (λ k. hex_told reads.Other (or_zero k) hex.Kind) (number_of-decimal n small)
hex_reads reads.Other hex.Shape n other small = ap (λ k. hex_told reads.Other (or_zero k) hex.Shape) (number_of-decimal n small)
hex_reads reads.Other hex.Overlap n other small = ap (λ k. hex_told reads.Other (or_zero k) hex.Overlap) (number_of-decimal n small)
hex_reads reads.Other hex.Span n other small = ap (λ k. hex_told reads.Other (or_zero k) hex.Span) (number_of-decimal n small)
hex_reads reads.Other hex.End n other small = ap (λ k. hex_told reads.Other (or_zero k) hex.End) (number_of-decimal n small)
hex_reads reads.Other hex.Memory n other small = refl

script_reads : (what : Reads) (cause : LineFault) (n : ℕ) → what ≢ reads.Nodes → n < 2 ^ 32
    → bad_input_told what (codes "line" ∷ decimal n ∷ fault_name cause ∷ []) ≡ script_end n cause
script_reads reads.Nodes cause n other small = absurd (other refl)
script_reads reads.Wrapped lines.Verb n other small = ap (λ k. told.Script lines.Verb (or_zero k)) (number_of-decimal n small)
script_reads reads.Wrapped lines.Few n other small = ap (λ k. told.Script lines.Few (or_zero k)) (number_of-decimal n small)
script_reads reads.Wrapped lines.Many n other small = ap (λ k. told.Script lines.Many (or_zero k)) (number_of-decimal n small)
script_reads reads.Wrapped lines.Number n other small = ap (λ k. told.Script lines.Number (or_zero k)) (number_of-decimal n small)
script_reads reads.Wrapped lines.Mote n other small = ap (λ k. told.Script lines.Mote (or_zero k)) (number_of-decimal n small)
script_reads reads.Wrapped lines.Image n other small = ap (λ k. told.Script lines.Image (or_zero k)) (number_of-decimal n small)
script_reads reads.Wrapped lines.Version n other small = ap (λ k. told.Script lines.Version (or_zero k)) (number_of-decimal n small)
script_reads reads.Wrapped lines.Name n other small = ap (λ k. told.Script lines.Name (or_zero k)) (number_of-decimal n small)
script_reads reads.Wrapped lines.Content n other small = ap (λ k. told.Script lines.Content (or_zero k)) (number_of-decimal n small)
script_reads reads.Wrapped lines.Mask n other small = ap (λ k. told.Script lines.Mask (or_zero k)) (number_of-decimal n small)
script_reads reads.Wrapped lines.Place n other small = ap (λ k. told.Script lines.Place (or_zero k)) (number_of-decimal n small)
script_reads reads.Wrapped lines.Cut n other small = ap (λ k. told.Script lines.Cut (or_zero k)) (number_of-decimal n small)
script_reads reads.Wrapped lines.Long n other small = ap (λ k. told.Script lines.Long (or_zero k)) (number_of-decimal n small)
script_reads reads.Wrapped lines.Memory n other small = refl
script_reads reads.Other lines.Verb n other small = ap (λ k. told.Script lines.Verb (or_zero k)) (number_of-decimal n small)
script_reads reads.Other lines.Few n other small = ap (λ k. told.Script lines.Few (or_zero k)) (number_of-decimal n small)
script_reads reads.Other lines.Many n other small = ap (λ k. told.Script lines.Many (or_zero k)) (number_of-decimal n small)
script_reads reads.Other lines.Number n other small = ap (λ k. told.Script lines.Number (or_zero k)) (number_of-decimal n small)
script_reads reads.Other lines.Mote n other small = ap (λ k. told.Script lines.Mote (or_zero k)) (number_of-decimal n small)
script_reads reads.Other lines.Image n other small = ap (λ k. told.Script lines.Image (or_zero k)) (number_of-decimal n small)
script_reads reads.Other lines.Version n other small = ap (λ k. told.Script lines.Version (or_zero k)) (number_of-decimal n small)
script_reads reads.Other lines.Name n other small = ap (λ k. told.Script lines.Name (or_zero k)) (number_of-decimal n small)
script_reads reads.Other lines.Content n other small = ap (λ k. told.Script lines.Content (or_zero k)) (number_of-decimal n small)
script_reads reads.Other lines.Mask n other small = ap (λ k. told.Script lines.Mask (or_zero k)) (number_of-decimal n small)
script_reads reads.Other lines.Place n other small = ap (λ k. told.Script lines.Place (or_zero k)) (number_of-decimal n small)
script_reads reads.Other lines.Cut n other small = ap (λ k. told.Script lines.Cut (or_zero k)) (number_of-decimal n small)
script_reads reads.Other lines.Long n other small = ap (λ k. told.Script lines.Long (or_zero k)) (number_of-decimal n small)
script_reads reads.Other lines.Memory n other small = refl

nodes_reads : (cause : DripFault) (n : ℕ) → n < 2 ^ 32
    → bad_input_told reads.Nodes (codes "line" ∷ decimal n ∷ fault_name (line_fault cause) ∷ []) ≡ told.Nodes cause n
nodes_reads nodes.Long n small = ap (λ k. told.Nodes nodes.Long (or_zero k)) (number_of-decimal n small)
nodes_reads nodes.Verb n small = ap (λ k. told.Nodes nodes.Verb (or_zero k)) (number_of-decimal n small)
nodes_reads nodes.Place n small = ap (λ k. told.Nodes nodes.Place (or_zero k)) (number_of-decimal n small)
nodes_reads nodes.Number n small = ap (λ k. told.Nodes nodes.Number (or_zero k)) (number_of-decimal n small)

profile_reads : (what : Reads) (cause : ProfileFault) (text : List ℕ) → Some (line (codes "profile " ++ profile_fault_text cause)) ≡ Some (line text)
    → bad_input_told what (words_of text) ≡ profile_end cause
unfolding words_of split_of
profile_reads what profile.NotToml text e = ap (λ t. bad_input_told what (words_of t)) (before_end text (codes "profile nottoml") e)
profile_reads what profile.Key text e = ap (λ t. bad_input_told what (words_of t)) (before_end text (codes "profile key") e)
profile_reads what profile.Id text e = ap (λ t. bad_input_told what (words_of t)) (before_end text (codes "profile id") e)
profile_reads what profile.Link text e = ap (λ t. bad_input_told what (words_of t)) (before_end text (codes "profile link") e)
profile_reads what profile.Port text e = ap (λ t. bad_input_told what (words_of t)) (before_end text (codes "profile port") e)
profile_reads what profile.Memory text e = ap (λ t. bad_input_told what (words_of t)) (before_end text (codes "profile out of memory") e)

-- ---- ends

board_reads : (need have : ℕ) (text : List ℕ) → need < 2 ^ 32 → have < 2 ^ 32 → Some (line (codes "noboard" ++ numbers (need ∷ have ∷ []))) ≡ Some (line text)
    → no_board_told (words_of text) ≡ told.NoBoard need have
board_reads need have text small few e =
    let words : words_of text ≡ codes "noboard" ∷ decimal need ∷ decimal have ∷ [] =
    ap words_of (before_end text (codes "noboard" ++ numbers (need ∷ have ∷ [])) e)
    ∙ words_spaced (codes "noboard") (decimal need ∷ decimal have ∷ []) (record { some = omega arith; whole = refl }) ((number need small).word, ((number have few).word, tt {0})) in
    ap no_board_told words
    ∙ ap (λ n. told.NoBoard (or_zero n) (or_zero (number_of (decimal have)))) (number_of-decimal need small)
    ∙ ap (λ n. told.NoBoard need (or_zero n)) (number_of-decimal have few)

pub end_reads : (end : End) (text : List ℕ) (what : Reads) (in_memory : Bool) → what ≢ reads.Nodes → EndFits end → last_line end ≡ Some (line text)
    → last_line_told (status_of end) what in_memory text ≡ end_told what in_memory end
end_reads ends.NotAVolume text what in_memory other fits e = refl
end_reads ends.NoImage text what in_memory other fits e = refl
end_reads ends.TooLong text what in_memory other fits e = refl
end_reads ends.TooMany text what in_memory other fits e = refl
end_reads (ends.NoBoard need have) text what in_memory other fits e = board_reads need have text fits.0 fits.1 e
end_reads (ends.BadHex fault) text what in_memory other fits e =
    ap (bad_input_told what) (number_line_words (codes "line") (cause_text fault.cause) text fault.line is_line (hex_word fault.cause) fits e)
    ∙ hex_reads what fault.cause fault.line other fits
end_reads (ends.BadLine n cause) text what in_memory other fits e =
    ap (bad_input_told what) (number_line_words (codes "line") (fault_name cause) text n is_line (script_word cause) fits e)
    ∙ script_reads what cause n other fits
end_reads (ends.BadProfile cause) text what in_memory other fits e = profile_reads what cause text e
end_reads (ends.Refused cause) text what in_memory other fits e = refusal_reads cause text fits e
end_reads ends.Memory text what in_memory other fits e = cc
end_reads ends.ReadFault text what in_memory other fits e = cc
end_reads ends.WriteFault text what in_memory other fits e = cc
end_reads ends.FlashFault text what in_memory other fits e = cc
end_reads ends.LinkFault text what in_memory other fits e = cc

pub nodes_end_reads : (n : ℕ) (cause : DripFault) (text : List ℕ) (in_memory : Bool) → n < 2 ^ 32 → bad_line n (fault_name (line_fault cause)) ≡ line text
    → last_line_told statuses.BadInput reads.Nodes in_memory text ≡ told.Nodes cause n
nodes_end_reads n cause text in_memory small e =
    ap (bad_input_told reads.Nodes) (number_line_words (codes "line") (fault_name (line_fault cause)) text n is_line (nodes_word cause) small (ap Some e))
    ∙ nodes_reads cause n small

pub ends_have_lines : (end : End) (text : List ℕ) → last_line end ≡ Some text → has_last_line (status_of end) ≡ true
ends_have_lines ends.NotAVolume text e = refl
ends_have_lines ends.NoImage text e = refl
ends_have_lines ends.TooLong text e = refl
ends_have_lines ends.TooMany text e = refl
ends_have_lines (ends.NoBoard need have) text e = refl
ends_have_lines (ends.BadHex fault) text e = refl
ends_have_lines (ends.BadLine n cause) text e = refl
ends_have_lines (ends.BadProfile cause) text e = refl
ends_have_lines (ends.Refused cause) text e = refl
ends_have_lines ends.Memory text e = cc
ends_have_lines ends.ReadFault text e = cc
ends_have_lines ends.WriteFault text e = cc
ends_have_lines ends.FlashFault text e = cc
ends_have_lines ends.LinkFault text e = cc
