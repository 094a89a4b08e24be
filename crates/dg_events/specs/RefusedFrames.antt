-- The frames that come to motes, of motes or from outside, and are refused, by cause (docs/COMMANDS.md, "What a script costs").
use Rattle.std.specs.Prelude.{ℕ, ◌==◌, ◌&&◌, not, Bool, false, List, [], ◌∷◌, codes, Option, Some, None, is_some, Result, Ok, Err}
use Rattle.dg_base.specs.declared.events.Event.{Event}
use Rattle.dg_frame.specs.Grammar.{message_of}
use Rattle.dg_frame.specs.declared.Message.{Message}
use Rattle.dg_frame.specs.declared.FrameFault.{FrameFault}
use Rattle.dg_frame.specs.declared.FrameFault.TheVariants.{Short, Kind, Length, Check, Range}
use Rattle.dg_events.specs.Frames.{is_hearing, is_outside}
use Rattle.dg_events.specs.Told.{Happened}

-- ---- causes: short, kind, length, check, range

abbrev pub fault_number : FrameFault → ℕ
fault_number Short = 0
fault_number Kind = 1
fault_number Length = 2
fault_number Check = 3
fault_number Range = 4

-- their names in keys
abbrev pub fault_names : List (List ℕ)
fault_names = codes "short" ∷ codes "kind" ∷ codes "length" ∷ codes "check" ∷ codes "range" ∷ []

-- ---- refused frames

-- why a reader refuses bytes, None if they spell a message
abbrev pub reader_fault : Result Message FrameFault → Option FrameFault
reader_fault (Ok message) = None
reader_fault (Err fault) = Some fault

-- why a mote, wide or narrow, refuses the frame that an event brings to it, None if it refuses none
abbrev pub fault_brought : (wide : Bool) → Option (List ℕ) → Option FrameFault
fault_brought wide None = None
fault_brought wide (Some bytes) = reader_fault (message_of bytes wide)

abbrev pub is_refusal : (cause : ℕ) → Option FrameFault → Bool
is_refusal cause None = false
is_refusal cause (Some fault) = fault_number fault == cause

-- An event of these brings a frame that the mote refuses by a cause. It is not refused itself.
abbrev pub is_refused_by : (Event → Bool) → (cause : ℕ) → Happened → Bool
is_refused_by these cause x =
    these x.event && (not (is_some x.told.refused) && is_refusal cause (fault_brought x.wide x.brought))

-- a mote hears a frame and refuses it by a cause
abbrev pub is_refused_frame : (cause : ℕ) → Happened → Bool
is_refused_frame cause x = is_refused_by is_hearing cause x

-- bytes from outside come to a mote, which refuses them by a cause
abbrev pub is_refused_outside : (cause : ℕ) → Happened → Bool
is_refused_outside cause x = is_refused_by is_outside cause x
