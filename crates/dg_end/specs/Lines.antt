-- The status of each end of a command, and its last line (docs/COMMANDS.md, "How a command ends"): this is that table.
use Rattle.std.specs.Prelude.{ℕ, List, [], ◌∷◌, ◌++◌, codes, Option, Some, None, Result, Ok, Err}
use Rattle.dg_base.specs.Hexadecimal.{hex_text}
use Rattle.dg_base.specs.declared.answers.Status.{Status}
use Rattle.dg_base.specs.declared.answers.Status.TheVariants as statuses
use Rattle.dg_ihex.specs.Causes.{cause_text}
use Rattle.dg_netcfg.specs.Faults.{profile_fault_text}
use Rattle.dg_script.specs.Faults.{fault_name}
use Rattle.dg_end.specs.Texts.{numbers, line}
use Rattle.dg_end.specs.declared.refusal.Refusal.{Refusal}
use Rattle.dg_end.specs.declared.refusal.Refusal.TheVariants as refusals
use Rattle.dg_end.specs.declared.ends.End.{End}
use Rattle.dg_end.specs.declared.ends.End.TheVariants as ends

-- a cause, and its value
abbrev pub refusal_text : Refusal → List ℕ
refusal_text refusals.Empty = codes "empty"
refusal_text (refusals.TooLarge length) = codes "toolarge" ++ numbers (length ∷ [])
refusal_text refusals.Reserved = codes "reserved"
refusal_text (refusals.Stale version) = codes "stale" ++ numbers (version ∷ [])
refusal_text refusals.Taken = codes "taken"
refusal_text (refusals.Worn room) = codes "worn" ++ numbers (room ∷ [])
refusal_text (refusals.OldOrder number) = codes "oldorder" ++ numbers (number ∷ [])
refusal_text refusals.Absent = codes "none"
refusal_text (refusals.NotWhole done pages) = codes "notwhole" ++ numbers (done ∷ pages ∷ [])
refusal_text (refusals.Broken page kept found) =
    codes "broken" ++ numbers (page ∷ []) ++ 32 ∷ hex_text kept ++ 32 ∷ hex_text found
refusal_text refusals.Shape = codes "shape"
refusal_text (refusals.Foreign page) = codes "foreign" ++ numbers (page ∷ [])

abbrev pub status_of : End → Status
status_of ends.Memory = statuses.Memory
status_of ends.ReadFault = statuses.ReadFault
status_of ends.WriteFault = statuses.WriteFault
status_of ends.FlashFault = statuses.FlashFault
status_of ends.LinkFault = statuses.LinkFault
status_of ends.NotAVolume = statuses.NotAVolume
status_of ends.NoImage = statuses.NoImage
status_of ends.TooLong = statuses.TooLong
status_of ends.TooMany = statuses.TooMany
status_of (ends.NoBoard need have) = statuses.NoBoard
status_of (ends.Refused cause) = statuses.Refused
status_of end = statuses.BadInput

abbrev pub bad_line : (number : ℕ) → (cause : List ℕ) → List ℕ
bad_line number cause = line (codes "line" ++ numbers (number ∷ []) ++ 32 ∷ cause)

-- the last line, where there is one
abbrev pub last_line : End → Option (List ℕ)
last_line ends.NotAVolume = Some (line (codes "notavolume"))
last_line ends.NoImage = Some (line (codes "noimage"))
last_line ends.TooLong = Some (line (codes "toolong"))
last_line ends.TooMany = Some (line (codes "toomany"))
last_line (ends.NoBoard need have) = Some (line (codes "noboard" ++ numbers (need ∷ have ∷ [])))
last_line (ends.BadHex fault) = Some (bad_line fault.line (cause_text fault.cause))
last_line (ends.BadLine number fault) = Some (bad_line number (fault_name fault))
last_line (ends.BadProfile fault) = Some (line (codes "profile " ++ profile_fault_text fault))
last_line (ends.Refused cause) = Some (line (codes "refused " ++ refusal_text cause))
last_line end = None

-- the last line has neither a number nor a cause in it, so that it takes no memory
abbrev pub HasFixedLine : End → Type 0
HasFixedLine ends.NotAVolume = Unit {0}
HasFixedLine ends.NoImage = Unit {0}
HasFixedLine ends.TooLong = Unit {0}
HasFixedLine ends.TooMany = Unit {0}
HasFixedLine end = ⊥

-- ---- the outcome of a command

-- its answer, or how it ends without one
abbrev pub Outcome : Type 0
Outcome = Result (List ℕ) End

-- the same of a call that answers a value, whose text this view gives
abbrev pub text_outcome : {T : Type 0} → (T → List ℕ) → Result T End → Outcome
text_outcome view (Ok x) = Ok (view x)
text_outcome view (Err end) = Err end

abbrev pub outcome_status : {T : Type 0} → Result T End → Status
outcome_status (Ok text) = statuses.Done
outcome_status (Err end) = status_of end

-- what is written at the end: all of the answer, or the last line
abbrev pub outcome_line : Outcome → Option (List ℕ)
outcome_line (Ok text) = Some text
outcome_line (Err end) = last_line end

-- what is written at the end of a command that wrote its answer before
abbrev pub finish_line : {T : Type 0} → Result T End → Option (List ℕ)
finish_line (Ok x) = None
finish_line (Err end) = last_line end
