-- What is known of lines that were read, and where they may stand (docs/SCRIPTS.md, "The script").
use Rattle.std.specs.Prelude.{◌≡◌, ℕ, Bool, ◌<◌, ◌≤◌, ◌^◌, IsTrue, true, false, length, List}
use Rattle.dg_words.specs.Cells.{AreBytes}
use Rattle.dg_base.specs.Texts.{spells_name}
use Rattle.dg_base.specs.declared.events.Event.{Event}
use Rattle.dg_base.specs.declared.events.Event.TheVariants.{Tick, Hear, Last, Reset, Inject, Order, Frame}
use Rattle.dg_base.specs.declared.events.Cut.{Cut as CutOfPower}
use Rattle.dg_object.specs.Object.{row_of}
use Rattle.dg_object.specs.Sizes.{most_bytes}
use Rattle.dg_script.specs.Sizes.{most_motes, most_used, most_sweeps}
use Rattle.dg_script.specs.Ranges.{IsDeclared, AreTwo, EventInRange, CutInRange}
use Rattle.dg_script.specs.Verbs.{stands, follows}
use Rattle.dg_script.specs.Places.{is_linked, is_narrow}
use Rattle.dg_script.specs.declared.line.Line.{Line}
use Rattle.dg_script.specs.declared.line.Line.TheVariants.{Nothing, Motes, Golden, Boards, Link, Narrow, Image, Cut}
use Rattle.dg_script.specs.declared.line.Line.TheVariants.{Happens as EventLine}
use Rattle.dg_script.specs.declared.line.Line.TheVariants.{Round, Sweeps}
use Rattle.dg_script.specs.declared.place.Place.{Place}
use Rattle.dg_script.specs.declared.verbs.Verb.{Verb}
use Rattle.dg_script.specs.declared.verbs.Verb.TheVariants as verb

-- a golden image has a name, and 1 to 70,656 bytes
pub record IsGoldenImage (called : List ℕ) (spent : ℕ) (content : List ℕ) : Type 0 where
  pub name : IsTrue (spells_name called)
  pub used : spent ≤ most_used
  pub some : 1 ≤ length content
  pub fits : length content ≤ most_bytes
  pub bytes : AreBytes content

-- a cut is in its range, its operation has a number of 32 bits, and it leaves bytes
pub record FitsCut (cut : CutOfPower) : Type 0 where
  pub range : CutInRange cut
  pub fits : cut.after < 2 ^ 32
  pub bytes : AreBytes cut.mask

-- the time and the word of each event are of 32 bits
pub record IsTimed (d w : ℕ) : Type 0 where
  pub dt : d < 2 ^ 32
  pub word : w < 2 ^ 32

-- the numbers of an event that its range does not bound from above have 32 bits
abbrev pub AreNumbers : Event → Type 0
AreNumbers (Tick mote dt word) = IsTimed dt word
AreNumbers (Hear mote dt word frame) = IsTimed dt word × (frame < 2 ^ 32)
AreNumbers (Last from to dt word) = IsTimed dt word
AreNumbers (Reset mote dt word) = IsTimed dt word
AreNumbers (Inject mote image version dt word) = IsTimed dt word × (version < 2 ^ 32)
AreNumbers (Order mote number image version dt word) = IsTimed dt word
AreNumbers (Frame mote dt word bytes) = IsTimed dt word

-- an event at one of this many motes is in its range, and its numbers are of 32 bits
abbrev pub FitsEvent : ℕ → Event → Type 0
FitsEvent motes event = EventInRange motes event × AreNumbers event

-- the fields of a line are in their ranges, if there are this many motes
abbrev pub FitsLine : ℕ → Line → Type 0
FitsLine motes Nothing = Unit {0}
FitsLine motes (Motes n) = (1 ≤ n) × (n ≤ most_motes)
FitsLine motes (Golden name used content) = IsGoldenImage name used content
FitsLine motes Boards = Unit {0}
FitsLine motes (Link a b) = AreTwo motes a b
FitsLine motes (Narrow mote) = mote < motes
FitsLine motes (Image image version name content) = IsDeclared (row_of image version name content)
FitsLine motes (Cut cut) = FitsCut cut
FitsLine motes (EventLine event) = FitsEvent motes event
FitsLine motes (Round a b) = AreTwo motes a b
FitsLine motes (Sweeps n) = (1 ≤ n) × (n ≤ most_sweeps)

-- the verb of an event
abbrev pub verb_of_event : Event → Verb
verb_of_event (Tick mote dt word) = verb.Tick
verb_of_event (Hear mote dt word frame) = verb.Hear
verb_of_event (Last from to dt word) = verb.Last
verb_of_event (Reset mote dt word) = verb.Reset
verb_of_event (Inject mote image version dt word) = verb.Inject
verb_of_event (Order mote number image version dt word) = verb.Order
verb_of_event (Frame mote dt word bytes) = verb.Frame

-- a line of this verb is played, and stands at its place
pub record StandsBy (verb : Verb) (place : Place) : Type 0 where
  pub fits : stands verb place ≡ true
  pub behind : follows verb place ≡ true

abbrev pub StandsAt : Place → Line → Type 0
StandsAt place Nothing = Unit {0}
StandsAt place (Motes n) = StandsBy verb.Motes place
StandsAt place (Golden name used content) = StandsBy verb.Golden place
StandsAt place Boards = StandsBy verb.Boards place
StandsAt place (Link a b) = StandsBy verb.Link place × (is_linked place.links a b ≡ false)
StandsAt place (Narrow mote) = StandsBy verb.Narrow place × (is_narrow place.narrow mote ≡ false)
StandsAt place (Image image version name content) = StandsBy verb.Image place
StandsAt place (Cut cut) = StandsBy verb.Cut place
StandsAt place (EventLine event) = StandsBy (verb_of_event event) place
StandsAt place (Round a b) = StandsBy verb.Round place
StandsAt place (Sweeps n) = StandsBy verb.Sweeps place

-- whether lines of a verb are played: all are
abbrev pub is_played : Verb → Bool
is_played verb = true

-- an event is one of those that are played
abbrev pub IsPlayedEvent : Event → Type 0
IsPlayedEvent event = IsTrue (is_played (verb_of_event event))

-- a line is one of those that are played
abbrev pub IsPlayed : Line → Type 0
IsPlayed Nothing = Unit {0}
IsPlayed (Motes n) = IsTrue (is_played verb.Motes)
IsPlayed (Golden name used content) = IsTrue (is_played verb.Golden)
IsPlayed Boards = IsTrue (is_played verb.Boards)
IsPlayed (Link a b) = IsTrue (is_played verb.Link)
IsPlayed (Narrow mote) = IsTrue (is_played verb.Narrow)
IsPlayed (Image image version name content) = IsTrue (is_played verb.Image)
IsPlayed (Cut cut) = IsTrue (is_played verb.Cut)
IsPlayed (EventLine event) = IsPlayedEvent event
IsPlayed (Round a b) = IsTrue (is_played verb.Round)
IsPlayed (Sweeps n) = IsTrue (is_played verb.Sweeps)

-- a line that is played on a board
abbrev pub UsesBoard : Line → Type 0
UsesBoard (Golden name used content) = Unit {0}
UsesBoard Boards = Unit {0}
UsesBoard (EventLine event) = Unit {0}
UsesBoard (Round a b) = Unit {0}
UsesBoard (Sweeps n) = Unit {0}
UsesBoard line = ⊥
