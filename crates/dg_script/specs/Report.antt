-- The lines of a report: the words and numbers that report each fact (docs/SCRIPTS.md, "The report").
use Rattle.std.specs.Prelude.{ℕ, List, [], ◌∷◌, ◌++◌, codes}
use Rattle.std.specs.List.{flat_map}
use Rattle.std.specs.Fmt.{decimal}
use Rattle.std.specs.Int.{to_be_bytes, w16}
use Rattle.dg_base.specs.Hexadecimal.{hex_text}
use Rattle.dg_script.specs.Words.{spaced}
use Rattle.dg_script.specs.declared.report.Cause.{Cause}
use Rattle.dg_script.specs.declared.report.Cause.TheVariants as cause
use Rattle.dg_script.specs.declared.report.Report.{Report}
use Rattle.dg_script.specs.declared.report.Report.TheVariants.{Order, Lost, Have, Start, Off, SentAdvert, SentRequest, SentData}
use Rattle.dg_script.specs.declared.report.Report.TheVariants.{Refused, Taken, End, MoteOn, MoteOff, Kept}

-- why an event was refused, with the number that it is refused for
abbrev pub cause_words : Cause → List (List ℕ)
cause_words cause.Off = codes "off" ∷ []
cause_words cause.Frame = codes "frame" ∷ []
cause_words cause.Link = codes "link" ∷ []
cause_words cause.Image = codes "image" ∷ []
cause_words cause.Empty = codes "empty" ∷ []
cause_words (cause.TooLarge length) = codes "toolarge" ∷ decimal length ∷ []
cause_words cause.Reserved = codes "reserved" ∷ []
cause_words (cause.Stale version) = codes "stale" ∷ decimal version ∷ []
cause_words cause.Taken = codes "taken" ∷ []
cause_words (cause.Worn room) = codes "worn" ∷ decimal room ∷ []
cause_words (cause.OldOrder number) = codes "oldorder" ∷ decimal number ∷ []

-- the words of a line
abbrev pub report_words : Report → List (List ℕ)
report_words (Order mote number image version) =
    codes "order" ∷ decimal mote ∷ decimal number ∷ decimal image ∷ decimal version ∷ []
report_words (Lost mote image) = codes "none" ∷ decimal mote ∷ decimal image ∷ []
report_words (Have mote image version pages) = codes "have" ∷ decimal mote ∷ decimal image ∷ decimal version ∷ decimal pages ∷ []
report_words (Start mote image version length crc) =
    codes "start" ∷ decimal mote ∷ decimal image ∷ decimal version ∷ decimal length ∷ hex_text (to_be_bytes w16 crc) ∷ []
report_words (Off mote) = codes "off" ∷ decimal mote ∷ []
report_words (SentAdvert mote) = codes "sent" ∷ decimal mote ∷ codes "advert" ∷ []
report_words (SentRequest mote to image version page count) =
    codes "sent" ∷ decimal mote ∷ codes "request" ∷ decimal to ∷ decimal image ∷ decimal version ∷ decimal page
    ∷ decimal count ∷ []
report_words (SentData mote image version page packet) =
    codes "sent" ∷ decimal mote ∷ codes "data" ∷ decimal image ∷ decimal version ∷ decimal page ∷ decimal packet ∷ []
report_words (Refused mote why) = codes "no" ∷ decimal mote ∷ cause_words why
report_words (Taken image version) = codes "no" ∷ codes "image" ∷ decimal image ∷ decimal version ∷ codes "taken" ∷ []
report_words (End events) = codes "end" ∷ decimal events ∷ []
report_words (MoteOn mote image version) = codes "mote" ∷ decimal mote ∷ codes "on" ∷ decimal image ∷ decimal version ∷ []
report_words (MoteOff mote) = codes "mote" ∷ decimal mote ∷ codes "off" ∷ []
report_words (Kept mote image version pages) = codes "kept" ∷ decimal mote ∷ decimal image ∷ decimal version ∷ decimal pages ∷ []

-- the words with one space between them, and LF
unfoldable pub report_line : Report → List ℕ
report_line report = spaced (report_words report) ++ 10 ∷ []

-- a report
abbrev pub report_text : List Report → List ℕ
report_text reports = flat_map report_line reports
