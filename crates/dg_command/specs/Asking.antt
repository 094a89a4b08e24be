-- What words ask for (the words of docs/COMMANDS.md).
use Rattle.std.specs.Prelude.{◌≢◌, ℕ, Bool, true, ◌&&◌, if◌then◌else◌, List, [], ◌∷◌, map, Option, Some, None, codes}
use Rattle.std.specs.Prelude.{string_bytes}
use Rattle.dg_base.specs.Texts.{spells_name}
use Rattle.clap.specs.Words.{Kinds, Row, Text, fault_of, matches_of}
use Rattle.clap.specs.declared.error.kind.ErrorKind.{ErrorKind}
use Rattle.clap.specs.declared.error.kind.ErrorKind.TheVariants.{DisplayHelp, DisplayVersion}
use Rattle.dg_command.specs.Apps.{app_for}
use Rattle.dg_command.specs.Values.{number_under, form_asked, text_at, texts_at}
use Rattle.dg_command.specs.Roots.{spells_root}
use Rattle.dg_command.specs.Verbs.{verb_in}
use Rattle.dg_command.specs.declared.verbs.Verb.{Verb}
use Rattle.dg_command.specs.declared.verbs.Verb.TheVariants as verb
use Rattle.dg_command.specs.declared.command.Command.{Command}
use Rattle.dg_command.specs.declared.command.Command.TheVariants as command
use Rattle.dg_command.specs.declared.command.Asked.{Asked}
use Rattle.dg_command.specs.declared.command.Asked.TheVariants as asked

-- a command with its values
pub data Said : Type 0 where
  Replay : (flashes : List Text) → Said
  Serve : (turns seed : ℕ) → (flashes : List Text) → Said
  Format : (name : Text) → (used form : ℕ) → (flash : Text) → Said
  Inject : (image version : ℕ) → (name flash : Text) → Said
  Order : (number image version : ℕ) → (flash : Text) → Said
  Boot : (flash : Text) → Said
  Ping : (flash : Text) → Said
  Dump : (image : ℕ) → (flash : Text) → Said
  Migrate : (flash : Text) → Said
  Trial : (motes pages seed : ℕ) → Said
  Wrap : Said
  Check : (image : ℕ) → (root flash : Text) → Said
  Receive : (image version : ℕ) → (name root flash : Text) → Said
  Drip : Said
  Base : (id step seed : ℕ) → (flash : Text) → Said

-- a command, a text of help, the version, or none of these
pub data Asking : Type 0 where
  Asks : Said → Asking
  Helps : Asking
  TellsVersion : Asking
  Misuses : Asking

-- ---- what the code's values say

abbrev pub said_of_command : Command → Said
said_of_command (command.Replay flashes) = Replay (map string_bytes flashes.items)
said_of_command (command.Serve turns seed flashes) = Serve turns seed (map string_bytes flashes.items)
said_of_command (command.Format name used form flash) = Format (string_bytes name) used form (string_bytes flash)
said_of_command (command.Inject image version name flash) = Inject image version (string_bytes name) (string_bytes flash)
said_of_command (command.Order order flash) = Order order.number order.image order.version (string_bytes flash)
said_of_command (command.Boot flash) = Boot (string_bytes flash)
said_of_command (command.Ping flash) = Ping (string_bytes flash)
said_of_command (command.Dump image flash) = Dump image (string_bytes flash)
said_of_command (command.Migrate flash) = Migrate (string_bytes flash)
said_of_command (command.Trial motes pages seed) = Trial motes pages seed
said_of_command command.Wrap = Wrap
said_of_command (command.Check image root flash) = Check image (string_bytes root) (string_bytes flash)
said_of_command (command.Receive image version name root flash) =
    Receive image version (string_bytes name) (string_bytes root) (string_bytes flash)
said_of_command command.Drip = Drip
said_of_command (command.Base id step seed flash) = Base id step seed (string_bytes flash)

abbrev pub asking_of : Asked → Asking
asking_of (asked.Command c) = Asks (said_of_command c)
asking_of (asked.Help text) = Helps
asking_of asked.Version = TellsVersion
asking_of asked.Usage = Misuses

-- a text of help is not empty
abbrev pub HelpsBySome : Asked → Type 0
HelpsBySome (asked.Help text) = string_bytes text ≢ []
HelpsBySome _ = Unit {0}

-- ---- what words say

-- the values that `clap` read for a verb
abbrev pub said_at : Verb → List Row → Said
said_at verb.Replay rows = Replay (texts_at (codes "FLASH") rows)
said_at verb.Serve rows =
    Serve (number_under 32 (codes "turns") rows) (number_under 32 (codes "seed") rows) (texts_at (codes "FLASH") rows)
said_at verb.Format rows = Format (text_at (codes "name") rows) (number_under 32 (codes "used") rows)
    (form_asked (number_under 8 (codes "form") rows)) (text_at (codes "FLASH") rows)
said_at verb.Inject rows = Inject (number_under 8 (codes "image") rows) (number_under 32 (codes "ver") rows)
    (text_at (codes "name") rows) (text_at (codes "FLASH") rows)
said_at verb.Order rows = Order (number_under 32 (codes "number") rows) (number_under 8 (codes "image") rows)
    (number_under 32 (codes "ver") rows) (text_at (codes "FLASH") rows)
said_at verb.Boot rows = Boot (text_at (codes "FLASH") rows)
said_at verb.Ping rows = Ping (text_at (codes "FLASH") rows)
said_at verb.Dump rows = Dump (number_under 8 (codes "image") rows) (text_at (codes "FLASH") rows)
said_at verb.Migrate rows = Migrate (text_at (codes "FLASH") rows)
said_at verb.Trial rows =
    Trial (number_under 8 (codes "motes") rows) (number_under 8 (codes "pages") rows) (number_under 32 (codes "seed") rows)
said_at verb.Wrap rows = Wrap
said_at verb.Check rows = Check (number_under 8 (codes "image") rows) (text_at (codes "root") rows) (text_at (codes "FLASH") rows)
said_at verb.Receive rows =
    Receive (number_under 8 (codes "image") rows) (number_under 32 (codes "ver") rows) (text_at (codes "name") rows)
    (text_at (codes "root") rows) (text_at (codes "FLASH") rows)
said_at verb.Drip rows = Drip
said_at verb.Base rows = Base (number_under 16 (codes "id") rows) (number_under 32 (codes "step") rows)
    (number_under 32 (codes "seed") rows) (text_at (codes "FLASH") rows)

-- whether the texts of a command have their form: the name that it gives an image is valid, and so is a root
abbrev pub is_well_formed : Said → Bool
is_well_formed (Format name used form flash) = spells_name name
is_well_formed (Inject image version name flash) = spells_name name
is_well_formed (Check image root flash) = spells_root root
is_well_formed (Receive image version name root flash) = spells_name name && spells_root root
is_well_formed _ = true

abbrev pub asks_named : Said → Asking
asks_named said = if is_well_formed said then Asks said else Misuses

-- words that `clap` takes: those of a verb are its command, unless a name or a root is invalid
abbrev pub taken_by : Option Verb → List Row → Asking
taken_by (Some verb) rows = asks_named (said_at verb rows)
taken_by None rows = Misuses

-- words that it refuses, by the kind of the refusal
abbrev pub refused_words : ErrorKind → Asking
refused_words DisplayHelp = Helps
refused_words DisplayVersion = TellsVersion
refused_words _ = Misuses

abbrev pub by_parse_fault : Kinds → Asking → Asking
by_parse_fault [] taken = taken
by_parse_fault (kind ∷ kinds) taken = refused_words kind

abbrev pub answer_for : Option Verb → List Text → Asking
answer_for verb words = by_parse_fault (fault_of (app_for verb) words) (taken_by verb (matches_of (app_for verb) words))

-- what words ask for
unfoldable pub asked_of : List Text → Asking
asked_of words = answer_for (verb_in words) words

-- ---- the files that they name

abbrev pub flashes_said : Said → List Text
flashes_said (Replay flashes) = flashes
flashes_said (Serve turns seed flashes) = flashes
flashes_said (Format name used form flash) = flash ∷ []
flashes_said (Inject image version name flash) = flash ∷ []
flashes_said (Order number image version flash) = flash ∷ []
flashes_said (Boot flash) = flash ∷ []
flashes_said (Ping flash) = flash ∷ []
flashes_said (Dump image flash) = flash ∷ []
flashes_said (Migrate flash) = flash ∷ []
flashes_said (Trial motes pages seed) = []
flashes_said Wrap = []
flashes_said (Check image root flash) = flash ∷ []
flashes_said (Receive image version name root flash) = flash ∷ []
flashes_said Drip = []
flashes_said (Base id step seed flash) = flash ∷ []

abbrev pub flashes_of : Asking → List Text
flashes_of (Asks said) = flashes_said said
flashes_of Helps = []
flashes_of TellsVersion = []
flashes_of Misuses = []
