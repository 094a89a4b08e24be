-- The commands of `clap`, one for each verb, and the one for words without a verb (the words of docs/COMMANDS.md).
use Rattle.std.specs.Prelude.{ℕ, true, List, [], ◌∷◌, Option, Some, None, codes, pos}
use Rattle.clap.specs.Words.{App, Rule, Text, new_rule}
use Rattle.clap.specs.Simple.{new_shape}
use Rattle.clap.specs.declared.builder.action.ArgAction.TheVariants.{Set, Append}
use Rattle.clap.specs.declared.builder.value_parser.ValueParser.TheVariants as vp
use Rattle.dg_command.specs.Verbs.{command_word}
use Rattle.dg_command.specs.Sizes.{last_slot, most_turns, most_room, least_motes, most_motes, least_pages, most_pages, most_step}
use Rattle.dg_command.specs.Sizes.{most_id, old_form, new_form}
use Rattle.dg_command.specs.declared.verbs.Verb.{Verb}
use Rattle.dg_command.specs.declared.verbs.Verb.TheVariants.{Replay, Serve, Format, Inject, Order, Boot, Ping, Dump, Migrate}
use Rattle.dg_command.specs.declared.verbs.Verb.TheVariants.{Trial, Wrap, Check, Receive, Drip, Base}

-- the largest number of 32 bits
abbrev pub most_u32 : ℕ
most_u32 = 4294967295

-- an option that must be there, whose value is a number within bounds
abbrev pub number_option : Text → (low high : ℕ) → Rule
number_option name low high = record (new_rule name)
    { long = Some name; required = true; action = Some Set; parser = Some (vp.Signed (pos low) (pos high)) }

-- an option that must be there, whose value is a text
abbrev pub text_option : Text → Rule
text_option name = record (new_rule name) { long = Some name; required = true; action = Some Set }

-- the form in which a chip is written, which may be left out
abbrev pub form_option : Rule
form_option = record (new_rule (codes "form"))
    { long = Some (codes "form"); action = Some Set; parser = Some (vp.Signed (pos old_form) (pos new_form)) }

-- an image that a chip has a slot for
abbrev pub slot_option : Rule
slot_option = number_option (codes "image") 0 last_slot

-- a slot that is not golden's
abbrev pub other_slot_option : Rule
other_slot_option = number_option (codes "image") 1 last_slot

abbrev pub root_option : Rule
root_option = text_option (codes "root")

abbrev pub version_option : Rule
version_option = number_option (codes "ver") 1 most_u32

abbrev pub seed_option : Rule
seed_option = number_option (codes "seed") 0 most_u32

-- the file of a chip, and any number of them
abbrev pub flash_word : Rule
flash_word = record (new_rule (codes "FLASH")) { required = true; action = Some Set }

abbrev pub flash_words : Rule
flash_words = record (new_rule (codes "FLASH")) { action = Some Append }

-- what the words after a verb may be
abbrev pub rules_of : Verb → List Rule
rules_of Replay = flash_words ∷ []
rules_of Serve = number_option (codes "turns") 1 most_turns ∷ seed_option ∷ flash_words ∷ []
rules_of Format = text_option (codes "name") ∷ number_option (codes "used") 0 most_room ∷ form_option ∷ flash_word ∷ []
rules_of Inject = slot_option ∷ version_option ∷ text_option (codes "name") ∷ flash_word ∷ []
rules_of Order = number_option (codes "number") 1 most_u32 ∷ slot_option ∷ version_option ∷ flash_word ∷ []
rules_of Boot = flash_word ∷ []
rules_of Ping = flash_word ∷ []
rules_of Dump = slot_option ∷ flash_word ∷ []
rules_of Migrate = flash_word ∷ []
rules_of Trial =
    number_option (codes "motes") least_motes most_motes ∷ number_option (codes "pages") least_pages most_pages ∷ seed_option ∷ []
rules_of Wrap = []
rules_of Check = slot_option ∷ root_option ∷ flash_word ∷ []
rules_of Receive = other_slot_option ∷ version_option ∷ text_option (codes "name") ∷ root_option ∷ flash_word ∷ []
rules_of Drip = []
rules_of Base = number_option (codes "id") 0 most_id ∷ number_option (codes "step") 1 most_step ∷ seed_option ∷ flash_word ∷ []

-- a command of a verb, and one for words without a verb, which has help and a version and takes no word
unfoldable pub app_of_verb : Verb → App
app_of_verb verb = record { top = record (new_shape (command_word verb)) { rules = rules_of verb }; subs = [] }

unfoldable pub top_app : App
top_app = record { top = record (new_shape (codes "deluge")) { no_binary_name = true; has_version = true }; subs = [] }

abbrev pub app_for : Option Verb → App
app_for (Some verb) = app_of_verb verb
app_for None = top_app
