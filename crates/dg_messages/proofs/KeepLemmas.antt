-- Each last line is one that an output keeps: it is short, and does not begin with `s`.
use Rattle.std.proofs.Common.{◌≡◌, ◌≢◌, ℕ, ◌+◌, ◌<◌, ◌≤◌, ◌^◌, List, [], ◌∷◌, ◌++◌, length, Some, decimal, ap, sym, ◌∙◌, arith, codes, slice_index}
use Rattle.std.proofs.lemmas.List.{length-append}
use Rattle.dg_base.specs.Hexadecimal.{hex_text}
use Rattle.dg_base.proofs.HexLemmas.{length-hex_text}
use Rattle.dg_ihex.specs.Causes.{cause_text}
use Rattle.dg_ihex.specs.declared.faults.HexCause.{HexCause}
use Rattle.dg_ihex.specs.declared.faults.HexCause.TheVariants as hex
use Rattle.dg_netcfg.specs.Faults.{profile_fault_text}
use Rattle.dg_netcfg.specs.declared.profile.ProfileFault.{ProfileFault}
use Rattle.dg_netcfg.specs.declared.profile.ProfileFault.TheVariants as profile
use Rattle.dg_script.specs.Faults.{fault_name}
use Rattle.dg_script.specs.declared.fault.LineFault.{LineFault}
use Rattle.dg_script.specs.declared.fault.LineFault.TheVariants as lines
use Rattle.dg_lines.proofs.WordsReadLemmas.{number}
use Rattle.dg_end.specs.Lines.{bad_line, last_line, refusal_text}
use Rattle.dg_end.specs.Texts.{line, numbers}
use Rattle.dg_end.specs.declared.ends.End.{End}
use Rattle.dg_end.specs.declared.ends.End.TheVariants as ends
use Rattle.dg_end.specs.declared.refusal.Refusal.{Refusal}
use Rattle.dg_end.specs.declared.refusal.Refusal.TheVariants as refusals
use Rattle.dg_messages.specs.Keeping.{MayEnd}
use Rattle.dg_messages.specs.LastLines.{RefusalFits, EndFits}

-- ---- what an output keeps

begins_otherwise : (c : ℕ) (cs text : List ℕ) → Some (c ∷ cs) ≡ Some text → c ≢ 115 → slice_index text 0 ≢ 115
begins_otherwise c cs text e other f =
    let same : text ≡ c ∷ cs = cc in
    other (sym (ap (λ t. slice_index t 0) same) ∙ f)

no_last_line_is_skipped : (end : End) (text : List ℕ) → last_line end ≡ Some text → slice_index text 0 ≢ 115
no_last_line_is_skipped ends.NotAVolume text e = begins_otherwise 110 _ text e (λ f. omega (arith, f))
no_last_line_is_skipped ends.NoImage text e = begins_otherwise 110 _ text e (λ f. omega (arith, f))
no_last_line_is_skipped ends.TooLong text e = begins_otherwise 116 _ text e (λ f. omega (arith, f))
no_last_line_is_skipped ends.TooMany text e = begins_otherwise 116 _ text e (λ f. omega (arith, f))
no_last_line_is_skipped (ends.NoBoard need have) text e = begins_otherwise 110 _ text e (λ f. omega (arith, f))
no_last_line_is_skipped (ends.BadHex fault) text e = begins_otherwise 108 _ text e (λ f. omega (arith, f))
no_last_line_is_skipped (ends.BadLine n cause) text e = begins_otherwise 108 _ text e (λ f. omega (arith, f))
no_last_line_is_skipped (ends.BadProfile cause) text e = begins_otherwise 112 _ text e (λ f. omega (arith, f))
no_last_line_is_skipped (ends.Refused cause) text e = begins_otherwise 114 _ text e (λ f. omega (arith, f))
no_last_line_is_skipped ends.Memory text e = cc
no_last_line_is_skipped ends.ReadFault text e = cc
no_last_line_is_skipped ends.WriteFault text e = cc
no_last_line_is_skipped ends.FlashFault text e = cc
no_last_line_is_skipped ends.LinkFault text e = cc

-- ---- how long last lines are

line_length : (text : List ℕ) → length (line text) ≡ length text + 1
line_length text = length-append text (10 ∷ [])

short_number : (n : ℕ) → n < 2 ^ 32 → length (numbers (n ∷ [])) ≤ 11
short_number n small = omega (arith, length-append (32 ∷ decimal n) [], (number n small).short)

short_numbers : (a b : ℕ) → a < 2 ^ 32 → b < 2 ^ 32 → length (numbers (a ∷ b ∷ [])) ≤ 22
short_numbers a b small few =
    omega (arith, length-append (32 ∷ decimal a) (numbers (b ∷ [])), short_number b few, (number a small).short)

behind_word : (word rest : List ℕ) (most : ℕ) → length word ≤ 8 → length rest ≤ most → length (word ++ rest) ≤ 8 + most
behind_word word rest most first h = omega (arith, length-append word rest, first, h)

refusal_short : (cause : Refusal) → RefusalFits cause → length (refusal_text cause) ≤ 160
refusal_short refusals.Empty fits = omega arith
refusal_short refusals.Reserved fits = omega arith
refusal_short refusals.Taken fits = omega arith
refusal_short refusals.Absent fits = omega arith
refusal_short refusals.Shape fits = omega arith
refusal_short (refusals.TooLarge size) fits =
    let h : length (codes "toolarge" ++ numbers (size ∷ [])) ≤ 8 + 11 = behind_word (codes "toolarge") (numbers (size ∷ [])) 11 (omega arith) (short_number size fits) in
    omega (arith, h)
refusal_short (refusals.Stale version) fits =
    let h : length (codes "stale" ++ numbers (version ∷ [])) ≤ 8 + 11 = behind_word (codes "stale") (numbers (version ∷ [])) 11 (omega arith) (short_number version fits) in
    omega (arith, h)
refusal_short (refusals.Worn room) fits =
    let h : length (codes "worn" ++ numbers (room ∷ [])) ≤ 8 + 11 = behind_word (codes "worn") (numbers (room ∷ [])) 11 (omega arith) (short_number room fits) in
    omega (arith, h)
refusal_short (refusals.OldOrder count) fits =
    let h : length (codes "oldorder" ++ numbers (count ∷ [])) ≤ 8 + 11 = behind_word (codes "oldorder") (numbers (count ∷ [])) 11 (omega arith) (short_number count fits) in
    omega (arith, h)
refusal_short (refusals.Foreign page) fits =
    let h : length (codes "foreign" ++ numbers (page ∷ [])) ≤ 8 + 11 = behind_word (codes "foreign") (numbers (page ∷ [])) 11 (omega arith) (short_number page fits) in
    omega (arith, h)
refusal_short (refusals.NotWhole done pages) fits =
    let h : length (codes "notwhole" ++ numbers (done ∷ pages ∷ [])) ≤ 8 + 22 =
    behind_word (codes "notwhole") (numbers (done ∷ pages ∷ [])) 22 (omega arith) (short_numbers done pages fits.0 fits.1) in
    omega (arith, h)
refusal_short (refusals.Broken page kept found) fits =
    let digests : length (32 ∷ hex_text kept ++ 32 ∷ hex_text found) ≤ 130 =
    omega (arith, length-append (32 ∷ hex_text kept) (32 ∷ hex_text found), length-hex_text kept, length-hex_text found, fits.1, fits.2) in
    let rest : length ((numbers (page ∷ []) ++ 32 ∷ hex_text kept) ++ 32 ∷ hex_text found) ≤ 141 =
    omega (arith, length-append (numbers (page ∷ []) ++ 32 ∷ hex_text kept) (32 ∷ hex_text found), length-append (numbers (page ∷ [])) (32 ∷ hex_text kept), length-append (32 ∷ hex_text kept) (32 ∷ hex_text found), short_number page fits.0, digests) in
    let h : length (codes "broken" ++ ((numbers (page ∷ []) ++ 32 ∷ hex_text kept) ++ 32 ∷ hex_text found)) ≤ 8 + 141 =
    behind_word (codes "broken") ((numbers (page ∷ []) ++ 32 ∷ hex_text kept) ++ 32 ∷ hex_text found) 141 (omega arith) rest in
    omega (arith, h)

hex_short : (cause : HexCause) → length (cause_text cause) ≤ 13
hex_short hex.Start = omega arith
hex_short hex.Hex = omega arith
hex_short hex.Count = omega arith
hex_short hex.Check = omega arith
hex_short hex.Kind = omega arith
hex_short hex.Shape = omega arith
hex_short hex.Overlap = omega arith
hex_short hex.Span = omega arith
hex_short hex.End = omega arith
hex_short hex.Memory = omega arith

script_short : (cause : LineFault) → length (fault_name cause) ≤ 13
script_short lines.Verb = omega arith
script_short lines.Few = omega arith
script_short lines.Many = omega arith
script_short lines.Number = omega arith
script_short lines.Mote = omega arith
script_short lines.Image = omega arith
script_short lines.Version = omega arith
script_short lines.Name = omega arith
script_short lines.Content = omega arith
script_short lines.Mask = omega arith
script_short lines.Place = omega arith
script_short lines.Cut = omega arith
script_short lines.Long = omega arith
script_short lines.Memory = omega arith

profile_short : (cause : ProfileFault) → length (profile_fault_text cause) ≤ 13
profile_short profile.NotToml = omega arith
profile_short profile.Key = omega arith
profile_short profile.Id = omega arith
profile_short profile.Link = omega arith
profile_short profile.Port = omega arith
profile_short profile.Memory = omega arith

bad_line_short : (n : ℕ) (cause : List ℕ) → n < 2 ^ 32 → length cause ≤ 13 → length (bad_line n cause) ≤ 192
bad_line_short n cause small h =
    let rest : length (numbers (n ∷ []) ++ 32 ∷ cause) ≤ 25 =
    omega (arith, length-append (numbers (n ∷ [])) (32 ∷ cause), short_number n small, h) in
    let all : length (codes "line" ++ numbers (n ∷ []) ++ 32 ∷ cause) ≤ 8 + 25 =
    behind_word (codes "line") (numbers (n ∷ []) ++ 32 ∷ cause) 25 (omega arith) rest in
    omega (arith, line_length (codes "line" ++ numbers (n ∷ []) ++ 32 ∷ cause), all)

-- the text of a last line is no longer than the line
as_long : (text other : List ℕ) → Some other ≡ Some text → length other ≤ 192 → length text ≤ 192
as_long text other e h = let same : text ≡ other = cc in rw same h

each_last_line_is_short : (end : End) (text : List ℕ) → EndFits end → last_line end ≡ Some text → length text ≤ 192
each_last_line_is_short ends.NotAVolume text fits e = as_long text _ e (omega arith)
each_last_line_is_short ends.NoImage text fits e = as_long text _ e (omega arith)
each_last_line_is_short ends.TooLong text fits e = as_long text _ e (omega arith)
each_last_line_is_short ends.TooMany text fits e = as_long text _ e (omega arith)
each_last_line_is_short (ends.NoBoard need have) text fits e =
    let h : length (codes "noboard" ++ numbers (need ∷ have ∷ [])) ≤ 8 + 22 =
    behind_word (codes "noboard") (numbers (need ∷ have ∷ [])) 22 (omega arith) (short_numbers need have fits.0 fits.1) in
    as_long text _ e (omega (arith, line_length (codes "noboard" ++ numbers (need ∷ have ∷ [])), h))
each_last_line_is_short (ends.BadHex fault) text fits e = as_long text _ e (bad_line_short fault.line (cause_text fault.cause) fits (hex_short fault.cause))
each_last_line_is_short (ends.BadLine n cause) text fits e = as_long text _ e (bad_line_short n (fault_name cause) fits (script_short cause))
each_last_line_is_short (ends.BadProfile cause) text fits e =
    let h : length (codes "profile " ++ profile_fault_text cause) ≤ 8 + 13 = behind_word (codes "profile ") (profile_fault_text cause) 13 (omega arith) (profile_short cause) in
    as_long text _ e (omega (arith, line_length (codes "profile " ++ profile_fault_text cause), h))
each_last_line_is_short (ends.Refused cause) text fits e =
    let h : length (codes "refused " ++ refusal_text cause) ≤ 8 + 160 = behind_word (codes "refused ") (refusal_text cause) 160 (omega arith) (refusal_short cause fits) in
    as_long text _ e (omega (arith, line_length (codes "refused " ++ refusal_text cause), h))
each_last_line_is_short ends.Memory text fits e = cc
each_last_line_is_short ends.ReadFault text fits e = cc
each_last_line_is_short ends.WriteFault text fits e = cc
each_last_line_is_short ends.FlashFault text fits e = cc
each_last_line_is_short ends.LinkFault text fits e = cc

pub each_last_line_may_end : (end : End) (text : List ℕ) → EndFits end → last_line end ≡ Some text → MayEnd text
each_last_line_may_end end text fits e = record { short = each_last_line_is_short end text fits e; begins = no_last_line_is_skipped end text e }
