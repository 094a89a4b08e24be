-- The commands of `clap`: building them, and what holds of each.
use Rattle.std.proofs.Common.{◌≡◌, ◌∙◌, ◌&&◌, ◌++◌, Bool, true, false, not, is_some, refl, sym, ap, ap₂, List, [], ◌∷◌, map, Option, Some, None, append_assoc, append-nil}
use Rattle.std.specs.List.{list_all}
use Rattle.clap.proofs.OnLiterals.{clap_on_literals}
use Rattle.clap.proofs.SimpleLemmas.{is_false}
use Rattle.clap.proofs.WalkLemmas.{both}
use Rattle.clap.specs.Built.{AddsArg, AddsInTurn}
use Rattle.clap.specs.Words.{App, Rule, Text, app_of, fault_of, is_simple_and_free, rule_of, with_rule}
use Rattle.clap.specs.Simple.{built, argument_words, is_simple, new_app}
use Rattle.clap.specs.Walk.{is_empty, is_simple_arg}
use Rattle.clap.specs.declared.builder.arg.Arg.{Arg}
use Rattle.clap.specs.declared.builder.command.Command.{Command}
use Rattle.dg_command.specs.Apps.{app_for, app_of_verb, rules_of, top_app}
use Rattle.dg_command.specs.Verbs.{command_word}
use Rattle.dg_command.proofs.KindLemmas.{AtMostOne, one_kind}
use Rattle.dg_command.specs.declared.verbs.Verb.{Verb}
use Rattle.dg_command.specs.declared.verbs.Verb.TheVariants.{Replay, Serve, Format, Inject, Order, Boot, Ping, Dump, Migrate, Trial, Wrap, Check, Receive, Drip, Base}

-- ---- arguments added in turn

abbrev with_rules : App → List Rule → App
with_rules a rules = record a { top = record a.top { rules = a.top.rules ++ rules } }

last_of_ten : (a b c d e f g h i j : Bool) → (a && (b && (c && (d && (e && (f && (g && (h && (i && j))))))))) ≡ true → j ≡ true
last_of_ten true true true true true true true true true j t = t
last_of_ten true true true true true true true true false j t = cc
last_of_ten true true true true true true true false i j t = cc
last_of_ten true true true true true true false h i j t = cc
last_of_ten true true true true true false g h i j t = cc
last_of_ten true true true true false f g h i j t = cc
last_of_ten true true true false e f g h i j t = cc
last_of_ten true true false d e f g h i j t = cc
last_of_ten true false c d e f g h i j t = cc
last_of_ten false b c d e f g h i j t = cc

-- an argument that is simple is not global
local : (x : Arg) → is_simple_arg x ≡ true → x.global ≡ false
local x e = is_false x.global (last_of_ten (is_empty x.overrides.items) (is_empty x.default_vals_ifs.items) (is_empty x.groups.items) (not (is_some x.val_delim)) (not (is_some x.terminator))
    (not x.allow_hyphen_values) (not x.allow_negative_numbers) (not x.require_equals) (not x.last) (not x.global) e)

with_none : (a : App) → with_rules a [] ≡ a
with_none a = ap (λ (rs : List Rule). record a { top = record a.top { rules = rs } }) (append-nil a.top.rules)

with_first : (a : App) (r : Rule) (rs : List Rule) → with_rules (with_rule a r) rs ≡ with_rules a (r ∷ rs)
with_first a r rs = ap (λ (xs : List Rule). record a { top = record a.top { rules = xs } }) (append_assoc a.top.rules (r ∷ []) rs)

added_in_turn : (xs : List Arg) (old new : Command) → list_all (λ (r : Rule). r.is_simple) (map rule_of xs) ≡ true → AddsInTurn AddsArg old xs new
    → app_of new ≡ with_rules (app_of old) (map rule_of xs)
added_in_turn [] old new simple h = sym (ap app_of h) ∙ sym (with_none (app_of old))
added_in_turn (x ∷ xs) old new simple h =
    let parts = both _ _ simple in
    added_in_turn xs h.0 new parts.1 h.2
    ∙ (ap (λ (a : App). with_rules a (map rule_of xs)) (h.1.shape (local x parts.0)) ∙ with_first (app_of old) (rule_of x) (map rule_of xs))

simple_rules : (v : Verb) → list_all (λ (r : Rule). r.is_simple) (rules_of v) ≡ true
simple_rules Replay = refl
simple_rules Serve = refl
simple_rules Format = refl
simple_rules Inject = refl
simple_rules Order = refl
simple_rules Boot = refl
simple_rules Ping = refl
simple_rules Dump = refl
simple_rules Migrate = refl
simple_rules Trial = refl
simple_rules Wrap = refl
simple_rules Check = refl
simple_rules Receive = refl
simple_rules Drip = refl
simple_rules Base = refl

-- a command to which the arguments of a verb were added is that verb's
pub built_app : (v : Verb) (xs : List Arg) (old new : Command) → app_of old ≡ new_app (command_word v) → map rule_of xs ≡ rules_of v → AddsInTurn AddsArg old xs new
    → app_of new ≡ app_of_verb v
unfolding app_of_verb
built_app v xs old new begins rules h =
    let simple : list_all (λ (r : Rule). r.is_simple) (map rule_of xs) ≡ true = ap (list_all (λ (r : Rule). r.is_simple)) rules ∙ simple_rules v in
    added_in_turn xs old new simple h ∙ ap₂ with_rules begins rules

-- ---- what holds of each command

pub plain_for : (o : Option Verb) → is_simple_and_free (app_for o) ≡ true
unfolding clap_on_literals app_of_verb top_app
plain_for None = refl
plain_for (Some Replay) = refl
plain_for (Some Serve) = refl
plain_for (Some Format) = refl
plain_for (Some Inject) = refl
plain_for (Some Order) = refl
plain_for (Some Boot) = refl
plain_for (Some Ping) = refl
plain_for (Some Dump) = refl
plain_for (Some Migrate) = refl
plain_for (Some Trial) = refl
plain_for (Some Wrap) = refl
plain_for (Some Check) = refl
plain_for (Some Receive) = refl
plain_for (Some Drip) = refl
plain_for (Some Base) = refl

pub simple_for : (o : Option Verb) → is_simple (app_for o) ≡ true
simple_for o = (both (is_simple (app_for o)) _ (plain_for o)).0

pub one_for : (o : Option Verb) (words : List Text) → AtMostOne (fault_of (app_for o) words)
unfolding app_of_verb top_app
one_for None words = one_kind (built top_app).top refl (argument_words top_app words)
one_for (Some Replay) words = one_kind (built (app_of_verb Replay)).top refl (argument_words (app_of_verb Replay) words)
one_for (Some Serve) words = one_kind (built (app_of_verb Serve)).top refl (argument_words (app_of_verb Serve) words)
one_for (Some Format) words = one_kind (built (app_of_verb Format)).top refl (argument_words (app_of_verb Format) words)
one_for (Some Inject) words = one_kind (built (app_of_verb Inject)).top refl (argument_words (app_of_verb Inject) words)
one_for (Some Order) words = one_kind (built (app_of_verb Order)).top refl (argument_words (app_of_verb Order) words)
one_for (Some Boot) words = one_kind (built (app_of_verb Boot)).top refl (argument_words (app_of_verb Boot) words)
one_for (Some Ping) words = one_kind (built (app_of_verb Ping)).top refl (argument_words (app_of_verb Ping) words)
one_for (Some Dump) words = one_kind (built (app_of_verb Dump)).top refl (argument_words (app_of_verb Dump) words)
one_for (Some Migrate) words = one_kind (built (app_of_verb Migrate)).top refl (argument_words (app_of_verb Migrate) words)
one_for (Some Trial) words = one_kind (built (app_of_verb Trial)).top refl (argument_words (app_of_verb Trial) words)
one_for (Some Wrap) words = one_kind (built (app_of_verb Wrap)).top refl (argument_words (app_of_verb Wrap) words)
one_for (Some Check) words = one_kind (built (app_of_verb Check)).top refl (argument_words (app_of_verb Check) words)
one_for (Some Receive) words = one_kind (built (app_of_verb Receive)).top refl (argument_words (app_of_verb Receive) words)
one_for (Some Drip) words = one_kind (built (app_of_verb Drip)).top refl (argument_words (app_of_verb Drip) words)
one_for (Some Base) words = one_kind (built (app_of_verb Base)).top refl (argument_words (app_of_verb Base) words)
