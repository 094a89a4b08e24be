-- The verbs of the program, and their words (the words of docs/COMMANDS.md).
use Rattle.std.specs.Prelude.{ℕ, if◌then◌else◌, List, [], ◌∷◌, codes, bytes_eq, Option, Some, None}
use Rattle.dg_command.specs.declared.verbs.Verb.{Verb}
use Rattle.dg_command.specs.declared.verbs.Verb.TheVariants.{Replay, Serve, Format, Inject, Order, Boot, Ping, Dump, Migrate}
use Rattle.dg_command.specs.declared.verbs.Verb.TheVariants.{Trial, Wrap, Check, Receive, Drip, Base}

abbrev pub command_word : Verb → List ℕ
command_word Replay = codes "replay"
command_word Serve = codes "serve"
command_word Format = codes "format"
command_word Inject = codes "inject"
command_word Order = codes "order"
command_word Boot = codes "boot"
command_word Ping = codes "ping"
command_word Dump = codes "dump"
command_word Migrate = codes "migrate"
command_word Trial = codes "trial"
command_word Wrap = codes "wrap"
command_word Check = codes "check"
command_word Receive = codes "receive"
command_word Drip = codes "drip"
command_word Base = codes "base"

-- the verb of a word
abbrev pub command_verb : List ℕ → Option Verb
command_verb word =
    if bytes_eq word (codes "replay") then Some Replay
    else if bytes_eq word (codes "serve") then Some Serve
    else if bytes_eq word (codes "format") then Some Format
    else if bytes_eq word (codes "inject") then Some Inject
    else if bytes_eq word (codes "order") then Some Order
    else if bytes_eq word (codes "boot") then Some Boot
    else if bytes_eq word (codes "ping") then Some Ping
    else if bytes_eq word (codes "dump") then Some Dump
    else if bytes_eq word (codes "migrate") then Some Migrate
    else if bytes_eq word (codes "trial") then Some Trial
    else if bytes_eq word (codes "wrap") then Some Wrap
    else if bytes_eq word (codes "check") then Some Check
    else if bytes_eq word (codes "receive") then Some Receive
    else if bytes_eq word (codes "drip") then Some Drip
    else if bytes_eq word (codes "base") then Some Base
    else None

-- the verb of words: that of the first one
abbrev pub verb_in : List (List ℕ) → Option Verb
verb_in [] = None
verb_in (word ∷ words) = command_verb word
