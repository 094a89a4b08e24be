-- The numbers of a command lie in their ranges.
use Rattle.std.proofs.Common.{◌≡◌, ◌∙◌, ◌<◌, ◌≤◌, ◌&&◌, ◌^◌, inl, inr, ℕ, Bool, true, false, not, zero, suc, refl, sym, ap, subst, List, [], ◌∷◌, length, map, Option, Some, codes, true≢false, arith}
use Rattle.std.specs.Prelude.{nat_lt, option_and_then, unwrap_or, pos}
use Rattle.std.specs.List.{list_all, slice_index_or}
use Rattle.std.specs.Str.{bytes_eq}
use Rattle.std.specs.Str.Parse.{IsNumeral, ParsesUnsigned, digits_value, without_leading_plus}
use Rattle.std.proofs.lemmas.Bool.{ltb-true, lt-ltb}
use Rattle.std.proofs.lemmas.List.{length-map}
use Rattle.std.proofs.lemmas.Slice.Eq.{bytes_eq-Decides}
use Rattle.clap.proofs.CallerReads.{required_reads, signed_reads}
use Rattle.clap.proofs.SimpleLemmas.{is_false, ready_simple, simple_groups}
use Rattle.clap.proofs.TakesLemmas.{each_rule, free_arg}
use Rattle.clap.proofs.WalkLemmas.{both, one_text-rows}
use Rattle.clap.specs.Built.{IsParsedFrom, IsPlain}
use Rattle.clap.specs.Facts.{args_of, least_values, unwrap_or_range}
use Rattle.clap.specs.Lexer.{without_minus}
use Rattle.clap.specs.Simple.{IsSimple, is_ready, is_ready_leaf, shape_of}
use Rattle.clap.specs.Words.{ReadsOne, Rule, Text, app_of, found_of, one_of, one_text, rows_of, rule_of}
use Rattle.clap.specs.declared.builder.arg.Arg.{Arg}
use Rattle.clap.specs.declared.builder.command.Command.{Command}
use Rattle.clap.specs.declared.builder.command.Command.TheViews.{out-Command}
use Rattle.clap.specs.declared.builder.range.ValueRange.{ValueRange}
use Rattle.clap.specs.declared.builder.value_parser.ValueParser.TheVariants as vp
use Rattle.clap.specs.declared.parser.matches.ArgMatches.{ArgMatches}
use Rattle.dg_command.specs.Apps.{app_of_verb, number_option, rules_of}
use Rattle.dg_command.specs.Values.{number_under, number_of_text}
use Rattle.dg_command.proofs.ReadLemmas.{digits_from, digits_pass, is_read}
use Rattle.dg_command.specs.declared.verbs.Verb.{Verb}
use Rattle.dg_command.specs.declared.verbs.Verb.TheVariants.{Replay, Serve, Format, Inject, Order, Boot, Ping, Dump, Migrate, Trial, Wrap, Check, Receive, Drip, Base}

-- ---- the number that a text writes, as `signed_reads` wants it

reads_back : (k : ℕ) (t : Text) → ReadsOne {T = ℕ} {E = ℕ} (λ u x. ParsesUnsigned k 10 u x) t (number_of_text k t)
reads_back k t = go (is_read k (without_leading_plus t)) refl
  where
    passes : (ds : List ℕ) → IsNumeral 10 ds × (digits_value 10 ds < 2 ^ k) → is_read k ds ≡ true
    passes ds p = rw (lt-ltb 0 (length ds) p.0.0, digits_pass ds p.0.1, lt-ltb (digits_value 10 ds) (2 ^ k) p.1) refl

    go : (b : Bool) → is_read k (without_leading_plus t) ≡ b → ReadsOne {T = ℕ} {E = ℕ} (λ u x. ParsesUnsigned k 10 u x) t (number_of_text k t)
    go true e =
        let outer = both _ _ e in
        let inner = both _ _ outer.0 in
        rw e (((ltb-true _ _ inner.0, digits_from (without_leading_plus t) inner.1), ltb-true _ _ outer.1), refl)
    go false e = rw e (0, λ p. true≢false (sym (passes (without_leading_plus t) p) ∙ e))

-- ---- the argument at a place

at_rule : (xs : List Arg) (k : ℕ) (d : Arg) → rule_of (slice_index_or xs k d) ≡ slice_index_or (map rule_of xs) k (rule_of d)
at_rule [] k d = refl
at_rule (x ∷ xs) zero d = refl
at_rule (x ∷ xs) (suc k) d = at_rule xs k d

-- the rule at place k is the only one with a name
abbrev pub only_at : ℕ → Text → List Rule → Bool
only_at k id [] = true
only_at zero id (x ∷ xs) = list_all (λ (y : Rule). not (bytes_eq y.id id)) xs
only_at (suc k) id (x ∷ xs) = not (bytes_eq x.id id) && only_at k id xs

unique : (xs : List Arg) (k : ℕ) (id : Text) → only_at k id (map rule_of xs) ≡ true → (j : ℕ) (e : Arg) → j < length xs
    → bytes_eq (slice_index_or xs j e).id.now id ≡ true → j ≡ k
unique [] k id only j e lt same = absurd (omega arith)
unique (x ∷ xs) zero id only zero e lt same = refl
unique (x ∷ xs) zero id only (suc j) e lt same =
    absurd (true≢false (sym same ∙ is_false _ (each_rule (λ (y : Rule). not (bytes_eq y.id id)) xs only j e (omega arith))))
unique (x ∷ xs) (suc k) id only zero e lt same = absurd (true≢false (sym same ∙ is_false _ (both _ _ only).0))
unique (x ∷ xs) (suc k) id only (suc j) e lt same = ap suc (unique xs k id (both _ _ only).1 j e (omega arith) same)

-- ---- what required_reads asks of a command

ready : (v : Verb) → is_ready (app_of_verb v).top ≡ true
unfolding app_of_verb
ready Replay = refl
ready Serve = refl
ready Format = refl
ready Inject = refl
ready Order = refl
ready Boot = refl
ready Ping = refl
ready Dump = refl
ready Migrate = refl
ready Trial = refl
ready Wrap = refl
ready Check = refl
ready Receive = refl
ready Drip = refl
ready Base = refl

free : (v : Verb) → list_all (λ (r : Rule). r.is_free) (rules_of v) ≡ true
free Replay = refl
free Serve = refl
free Format = refl
free Inject = refl
free Order = refl
free Boot = refl
free Ping = refl
free Dump = refl
free Migrate = refl
free Trial = refl
free Wrap = refl
free Check = refl
free Receive = refl
free Drip = refl
free Base = refl

rules_are : (v : Verb) (old : Command) → app_of old ≡ app_of_verb v → map rule_of (args_of old) ≡ rules_of v
unfolding app_of_verb
rules_are v old is = ap (λ a. a.top.rules) is

no_negation : (v : Verb) (old : Command) → app_of old ≡ app_of_verb v → (out-Command old).subcommand_negates_reqs ≡ false
unfolding app_of_verb
no_negation v old is = ap (λ a. a.top.subcommand_negates_reqs) is

simple_command : (v : Verb) (old : Command) → app_of old ≡ app_of_verb v → IsSimple old
unfolding app_of_verb
simple_command v old is = ready_simple old (ap (λ a. is_ready a.top) is ∙ ready v) (ap (λ a. list_all is_ready_leaf a.subs) is)

plain_command : (v : Verb) (old : Command) → app_of old ≡ app_of_verb v → IsPlain old
plain_command v old is =
    let simple = simple_command v old is in
    let frees = each_rule (λ (r : Rule). r.is_free) (args_of old) (ap (list_all (λ (r : Rule). r.is_free)) (rules_are v old is) ∙ free v) in
    let rules = (both (shape_of old).is_plain _ (both _ _ (ap (λ a. is_ready a.top) is ∙ ready v)).0).1 in
    let groups = simple_groups old rules in
    (λ k d lt. let f = free_arg (slice_index_or (args_of old) k d) (simple.args k d lt) (frees k d lt) in (f.exclusive, f.conflicts, f.overrides, groups k d lt), simple.groups)

-- a name that is not empty, and not one of `clap`'s own
abbrev pub is_own : Text → Bool
is_own name = nat_lt 0 (length name) && (not (bytes_eq name (codes "help")) && not (bytes_eq name (codes "version")))

differs : (a b : Text) → bytes_eq a b ≡ false → a ≡ b → ⊥
differs a b other e = true≢false (sym ((bytes_eq-Decides a b).1 e) ∙ other)

not_empty : (name : Text) → nat_lt 0 (length name) ≡ true → name ≡ [] → ⊥
not_empty name long e = true≢false (sym long ∙ ap (λ (t : Text). nat_lt 0 (length t)) e)

abbrev IsBetween : (low high n : ℕ) → Type 0
IsBetween low high n = (low ≤ n) × (n ≤ high)

number_found : (bits low high : ℕ) (o : Option Text) (t : Text) → o ≡ Some (without_minus t) → high < 2 ^ bits → ((n : ℕ) × (number_of_text bits (without_minus t) ≡ Some n) × (low ≤ n) × (n ≤ high))
    → IsBetween low high (unwrap_or (option_and_then (number_of_text bits) o) 0)
number_found bits low high o t is fits got =
    let value : unwrap_or (option_and_then (number_of_text bits) o) 0 ≡ got.0 = ap (λ x. unwrap_or (option_and_then (number_of_text bits) x) 0) is ∙ ap (λ x. unwrap_or x 0) got.1 in
    subst (IsBetween low high) (sym value) (got.2, got.3)

pub in_range : (v : Verb) (old : Command) (m : ArgMatches) (k low high bits : ℕ) (name : Text) → app_of old ≡ app_of_verb v → IsParsedFrom old m
    → k < length (rules_of v) → ((d : Rule) → slice_index_or (rules_of v) k d ≡ number_option name low high) → only_at k name (rules_of v) ≡ true → is_own name ≡ true
    → high < 2 ^ bits → IsBetween low high (number_under bits name (rows_of (found_of m)))
unfolding number_under
in_range v old m k low high bits name is p lt here only own fits = go (args_of old) refl
  where
    found : (d : Arg) → IsBetween low high (unwrap_or (option_and_then (number_of_text bits) (one_of name (rows_of (found_of m)))) 0)
    found d =
        let a = slice_index_or (args_of old) k d in
        let rules = rules_are v old is in
        let rule : rule_of a ≡ number_option name low high = at_rule (args_of old) k d ∙ (ap (λ (rs : List Rule). slice_index_or rs k (rule_of d)) rules ∙ here (rule_of d)) in
        let id : a.id.now ≡ name = ap (λ (r : Rule). r.id) rule in
        let lt2 : k < length (args_of old) = subst (λ n. k < n) (sym (ap length (rules_are v old is)) ∙ length-map (args_of old) rule_of) lt in
        let simple = simple_command v old is in
        let own_name = both (nat_lt 0 (length name)) _ own in
        let not_own = both _ _ own_name.1 in
        let least : 1 ≤ least_values a = subst (λ (r : Option ValueRange). 1 ≤ (unwrap_or_range r).start_inclusive) (sym (ap (λ (r : Rule). r.range) rule)) (omega arith) in
        let alone = ap (only_at k name) rules ∙ only in
        let read = required_reads old m p (plain_command v old is) simple.globals (no_negation v old is) k d lt2 (ap (λ (r : Rule). r.required) rule) (ap (λ (r : Rule). r.action) rule)
        (simple.args k d lt2).delimiter least
        (λ j e l same. unique (args_of old) k name alone j e l (subst (λ (i : Text). bytes_eq (slice_index_or (args_of old) j e).id.now i ≡ true) id same))
        (λ e. not_empty name own_name.0 (sym id ∙ e))
        (λ auto. elim auto [
          | inl h ↦ differs name (codes "help") (is_false _ not_own.0) (sym id ∙ h)
          | inr h ↦ differs name (codes "version") (is_false _ not_own.1) (sym id ∙ h)
        ]) (vp.Signed (pos low) (pos high)) (ap (λ (r : Rule). r.parser) rule) in
        let one : one_of name (rows_of (found_of m)) ≡ Some (without_minus read.0) =
        sym (one_text-rows (found_of m) name) ∙ subst (λ (i : Text). one_text (found_of m) i ≡ Some (without_minus read.0)) id read.1 in
        let got = signed_reads ℕ (λ u x. ParsesUnsigned bits 10 u x) bits low high read.0 (number_of_text bits (without_minus read.0)) (reads_back bits (without_minus read.0)) (λ u x g. g) fits read.2 in
        number_found bits low high (one_of name (rows_of (found_of m))) read.0 one fits got

    go : (xs : List Arg) → args_of old ≡ xs → IsBetween low high (unwrap_or (option_and_then (number_of_text bits) (one_of name (rows_of (found_of m)))) 0)
    go [] e =
        let none : length (rules_of v) ≡ 0 = sym (ap length (rules_are v old is)) ∙ (length-map (args_of old) rule_of ∙ ap length e) in
        absurd (omega arith)
    go (x ∷ xs) e = found x
