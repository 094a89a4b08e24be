-- A command without subcommands refuses words for one cause.
use Rattle.std.proofs.Common.{◌≡◌, ◌&&◌, ◌||◌, ℕ, Bool, true, false, not, zero, suc, List, [], ◌∷◌, Option, Some, None, length, refl, subst, sym}
use Rattle.std.specs.Prelude.{⊤, ◌+◌, ◌==◌, if◌then◌else◌, drop, encode_utf8, min, nat_lt, slice_get, is_some}
use Rattle.std.specs.List.{list_any}
use Rattle.std.specs.Option.{option_map_or}
use Rattle.std.specs.Str.{bytes_eq, chars}
use Rattle.clap.specs.Facts.{explicit_source, parser_of_value, unwrap_or_range}
use Rattle.clap.specs.Lexer.{long_of, short_of}
use Rattle.clap.specs.Matches.{count_text}
use Rattle.clap.specs.Takes.{is_given}
use Rattle.clap.specs.Kinds.{Kinds, check_kinds, or_else, range_kinds, request_kinds, value_kinds, values_kinds}
use Rattle.clap.specs.Faults.{action_fault, built_fault, bundle_fault, bundle_step_fault, check_fault, count_fault, default_fault, defaults_fault, entered_fault, flag_word_fault, flags_fault, level_fault, long_fault, option_fault, other_fault, positional_fault, react_fault, set_fault, settle_fault, short_fault, step_fault, stray_fault, turn_fault, use_fault, values_fault, walk_fault, word_fault}
use Rattle.clap.specs.Simple.{Shape, entered}
use Rattle.clap.specs.Walk.{Held, Row, Rule, Step, Text, Waiting, Walk, idle, option, positional, next, trailing, subcommand, value, nothing_held, subcommand_met, action_of, arg_by_id, arg_by_index, arg_by_long, arg_by_short, attached_value, finished, has_row, is_empty, is_pending, reacted, settled, takes_several, takes_values, walk, word_met, count_of, most_values, values_or_missing, walk_from, walked, with_default}
use Rattle.clap.specs.declared.builder.action.ArgAction.{ArgAction}
use Rattle.clap.specs.declared.builder.action.ArgAction.TheVariants.{Set, Append, SetTrue, SetFalse, Count, Help, HelpShort, HelpLong, Version}
use Rattle.clap.specs.declared.error.kind.ErrorKind.{ErrorKind}
use Rattle.clap.specs.declared.error.kind.ErrorKind.TheVariants as kind
use Rattle.clap.specs.declared.builder.value_parser.ValueParser.{ValueParser}

unfoldable pub AtMostOne : Kinds → Type 0
AtMostOne [] = ⊤
AtMostOne (k ∷ []) = ⊤
AtMostOne (k ∷ l ∷ ks) = ⊥

nil : AtMostOne []
unfolding AtMostOne
nil = tt

one : (k : ErrorKind) → AtMostOne (k ∷ [])
unfolding AtMostOne
one k = tt

one_else : (a b : Kinds) → AtMostOne a → AtMostOne b → AtMostOne (or_else a b)
one_else [] b p q = q
one_else (k ∷ ks) b p q = p

one_if : (b : Bool) (x y : Kinds) → AtMostOne x → AtMostOne y → AtMostOne (if b then x else y)
one_if true x y p q = p
one_if false x y p q = q

one_option : {X : Type 0} (f : X → Kinds) (o : Option X) (d : Kinds) → ((x : X) → AtMostOne (f x)) → AtMostOne d → AtMostOne (option_map_or f o d)
one_option f None d p q = q
one_option f (Some x) d p q = p x

-- ---- one use of an argument

one_value : (b : Bool) (p : ValueParser) (text : Text) → AtMostOne (value_kinds b p text)
one_value b p text = one_if _ _ _ nil (one _)

one_values : (b : Bool) (p : ValueParser) (vs : List Text) → AtMostOne (values_kinds b p vs)
one_values b p [] = nil
one_values b p (v ∷ vs) = one_else _ _ (one_value b p v) (one_values b p vs)

one_of_four : (a b c d e : Bool) (k l m n : ErrorKind)
    → AtMostOne (if a then k ∷ [] else (if b then (if c then [] else l ∷ []) else (if d then m ∷ [] else (if e then n ∷ [] else []))))
one_of_four true b c d e k l m n = one k
one_of_four false true true d e k l m n = nil
one_of_four false true false d e k l m n = one l
one_of_four false false c true e k l m n = one m
one_of_four false false c false true k l m n = one n
one_of_four false false c false false k l m n = nil

one_range : (least most n : ℕ) → AtMostOne (range_kinds least most n)
one_range least most n =
    one_of_four (nat_lt 0 least && n == 0) (least == most) (least == n) (nat_lt n least) (nat_lt most n) kind.InvalidValue kind.WrongNumberOfValues kind.TooFewValues kind.TooManyValues

one_request : (a : ArgAction) → AtMostOne (request_kinds a)
one_request Set = nil
one_request Append = nil
one_request SetTrue = nil
one_request SetFalse = nil
one_request Count = nil
one_request Help = one _
one_request HelpShort = one _
one_request HelpLong = one _
one_request Version = one _

one_set : (again : Bool) (a : Rule) (vs : List Text) (rows : List Row) → AtMostOne (set_fault again a vs rows)
one_set again a vs rows = one_else _ _ (one_if _ _ _ (one _) nil) (one_values _ _ vs)

one_count : (a : Rule) (vs : List Text) (rows : List Row) → AtMostOne (count_fault a vs rows)
one_count a [] rows = one_value a.ignore_case (parser_of_value a.parser) (count_text (min (count_of a.id rows + 1) 255))
one_count a (v ∷ vs) rows = one_values _ _ (v ∷ vs)

one_action : (act : ArgAction) (again : Bool) (a : Rule) (vs : List Text) (rows : List Row) → AtMostOne (action_fault act again a vs rows)
one_action Set again a vs rows = one_set again a vs rows
one_action SetTrue again a vs rows = one_set again a vs rows
one_action SetFalse again a vs rows = one_set again a vs rows
one_action Append again a vs rows = one_values _ _ vs
one_action Count again a vs rows = one_count a vs rows
one_action Help again a vs rows = one _
one_action HelpShort again a vs rows = one _
one_action HelpLong again a vs rows = one _
one_action Version again a vs rows = one _

one_use : (again : Bool) (a : Rule) (vs : List Text) (rows : List Row) → AtMostOne (use_fault again a vs rows)
one_use again a vs rows =
    one_else (range_kinds (unwrap_or_range a.range).start_inclusive (most_values a) (length vs)) (action_fault (action_of a) again a (values_or_missing a vs) rows)
    (one_range (unwrap_or_range a.range).start_inclusive (most_values a) (length vs)) (one_action (action_of a) again a (values_or_missing a vs) rows)

-- ---- the walk

one_settle : (c : List Rule) (again : Bool) (h : Held) → AtMostOne (settle_fault c again h)
one_settle c again h = one_option (λ p. option_map_or (λ a. use_fault again a p.1 h.rows) (arg_by_id c p.0) []) h.pending []
    (λ p. one_option (λ a. use_fault again a p.1 h.rows) (arg_by_id c p.0) [] (λ a. one_use again a p.1 h.rows) nil) nil

one_react : (c : List Rule) (again : Bool) (a : Rule) (vs : List Text) (h : Held) → AtMostOne (react_fault c again a vs h)
one_react c again a vs h =
    one_else (settle_fault c again h) (use_fault again a vs (settled c h).rows) (one_settle c again h) (one_use again a vs (settled c h).rows)

one_opt : (c : List Rule) (again : Bool) (a : Rule) (v : Option Text) (h : Held) → AtMostOne (option_fault c again a v h)
one_opt c again a (Some v) h = one_react c again a (v ∷ []) h
one_opt c again a None h = one_settle c again h

one_long : (c : List Rule) (again : Bool) (a : Option Rule) (v : Option Text) (h : Held) → AtMostOne (long_fault c again a v h)
one_long c again None v h = one _
one_long c again (Some a) v h =
    one_if (takes_values a) (option_fault c again a v h) (if is_some v then kind.TooManyValues ∷ [] else react_fault c again a [] h) (one_opt c again a v h)
    (one_if (is_some v) (kind.TooManyValues ∷ []) (react_fault c again a [] h) (one _) (one_react c again a [] h))

one_short : (c : List Rule) (again : Bool) (a : Option Rule) (rest : Text) (h : Held) (f : Held → Kinds) → ((g : Held) → AtMostOne (f g))
    → AtMostOne (short_fault c again a rest h f)
one_short c again None rest h f p = one _
one_short c again (Some a) rest h f p =
    one_if (takes_values a) (option_fault c again a (attached_value rest) h) (or_else (react_fault c again a [] h) (f (reacted c a [] h))) (one_opt c again a (attached_value rest) h)
    (one_else (react_fault c again a [] h) (f (reacted c a [] h)) (one_react c again a [] h) (p (reacted c a [] h)))

one_step : (c : List Rule) (again : Bool) (x : Option ℕ) (flags : Text) (skip : ℕ) (h : Held) (f : Text → ℕ → Held → Kinds)
    → ((t : Text) (n : ℕ) (g : Held) → AtMostOne (f t n g)) → AtMostOne (bundle_step_fault c again x flags skip h f)
one_step c again None flags skip h f p = nil
one_step c again (Some x) flags zero h f p =
    let rest = drop (length (encode_utf8 x)) flags in
    one_short c again (arg_by_short c x) rest h (f rest 0) (λ g. p rest 0 g)
one_step c again (Some x) flags (suc skip) h f p = p (drop (length (encode_utf8 x)) flags) skip h

one_flags : (c : List Rule) (again : Bool) (k : ℕ) (flags : Text) (skip : ℕ) (h : Held) → AtMostOne (flags_fault c again k flags skip h)
unfolding flags_fault
one_flags c again zero flags skip h = nil
one_flags c again (suc k) flags skip h = one_step c again (slice_get (chars flags) 0) flags skip h (flags_fault c again k) (λ t n g. one_flags c again k t n g)

one_flag_word : (c : List Rule) (again : Bool) (o : Option (Text × Option Text)) (word : Text) (h : Held) → AtMostOne (flag_word_fault c again o word h)
one_flag_word c again (Some p) word h = one_long c again (arg_by_long c p.0) p.1 h
one_flag_word c again None word h =
    one_option (λ flags. bundle_fault c again flags h) (short_of word) [] (λ flags. one_flags c again (length flags) flags h.skip (record h { skip = 0 })) nil

no_subcommand : (waiting : Waiting) (word : Text) → subcommand_met [] waiting word ≡ None
no_subcommand idle word = refl
no_subcommand (option id) word = refl
no_subcommand positional word = refl

one_other : (s : Shape) (word : Text) (h : Held) → AtMostOne (other_fault s None word h)
one_other s word h = one_if (bytes_eq word (45 ∷ 45 ∷ [])) [] (flag_word_fault s.rules s.args_override_self (long_of word) word h) nil
    (one_flag_word s.rules s.args_override_self (long_of word) word h)

one_word : (s : Shape) (trails : Bool) (waiting : Waiting) (word : Text) (h : Held) → AtMostOne (word_fault s [] trails waiting word h)
one_word s trails waiting word h = one_if trails [] (other_fault s (subcommand_met [] waiting word) word h) nil
    (subst (λ (o : Option Text). AtMostOne (other_fault s o word h)) (sym (no_subcommand waiting word)) (one_other s word h))

one_stray : (s : Shape) → s.is_leaf ≡ true → AtMostOne (stray_fault s)
one_stray s leaf = rw leaf (one _)

one_positional : (c : List Rule) (again : Bool) (a : Rule) (h : Held) → AtMostOne (positional_fault c again a h)
one_positional c again a h = one_if (is_pending a h.pending && takes_several a) [] (settle_fault c again h) nil (one_settle c again h)

one_step_fault : (s : Shape) → s.is_leaf ≡ true → (position : ℕ) (h : Held) (step : Step) → AtMostOne (step_fault s position h step)
one_step_fault s leaf position h value =
    one_option (λ a. positional_fault s.rules s.args_override_self a h) (arg_by_index s.rules position) (stray_fault s) (λ a. one_positional s.rules s.args_override_self a h) (one_stray s leaf)
one_step_fault s leaf position h (next w) = nil
one_step_fault s leaf position h (trailing p) = nil
one_step_fault s leaf position h (subcommand n) = nil

one_turn : (s : Shape) → s.is_leaf ≡ true → (w : Walk) (word : Text) → AtMostOne (turn_fault s [] w word)
one_turn s leaf w word =
    let met = word_met s.rules [] w.is_trailing w.waiting w.position word w.held in
    one_if (is_some w.stopped) [] (or_else (word_fault s [] w.is_trailing w.waiting word w.held) (step_fault s w.position met.0 met.1)) nil
    (one_else (word_fault s [] w.is_trailing w.waiting word w.held) (step_fault s w.position met.0 met.1)
    (one_word s w.is_trailing w.waiting word w.held) (one_step_fault s leaf w.position met.0 met.1))

one_walk : (s : Shape) → s.is_leaf ≡ true → (words : List Text) (w : Walk) → AtMostOne (walk_fault s [] w words)
unfolding walk_fault
one_walk s leaf [] w = nil
one_walk s leaf (word ∷ rest) w =
    one_else (turn_fault s [] w word) (walk_fault s [] (walked s.rules [] w word) rest) (one_turn s leaf w word) (one_walk s leaf rest (walked s.rules [] w word))

-- ---- after the walk

one_given : (act : ArgAction) (a : Rule) (vs : List Text) → AtMostOne (or_else (request_kinds act) (values_fault a vs))
one_given act a vs = one_else (request_kinds act) (values_fault a vs) (one_request act) (one_values a.ignore_case (parser_of_value a.parser) vs)

one_default : (rows : List Row) (a : Rule) → AtMostOne (default_fault rows a)
one_default rows a = one_if (has_row a.id rows || is_empty a.defaults) [] (or_else (request_kinds (action_of a)) (values_fault a a.defaults)) nil (one_given (action_of a) a a.defaults)

one_defaults : (rules : List Rule) (rows : List Row) → AtMostOne (defaults_fault rows rules)
unfolding defaults_fault
one_defaults [] rows = nil
one_defaults (a ∷ rest) rows = one_else (default_fault rows a) (defaults_fault (with_default rows a) rest) (one_default rows a) (one_defaults rest (with_default rows a))

one_of_three : (a b c : Bool) → AtMostOne (check_kinds a b c)
one_of_three true b c = one _
one_of_three false true c = one _
one_of_three false false true = one _
one_of_three false false false = nil

one_check : (s : Shape) (rows : List Row) (b : Bool) → AtMostOne (check_fault s rows b)
one_check s rows b = one_of_three
    (not b && (s.arg_required_else_help && not (list_any (λ (r : Row). explicit_source r.source) rows)))
    (not b && s.subcommand_required)
    (not (s.subcommand_negates_reqs && b) && list_any (λ (a : Rule). a.required && not (is_given a.id rows)) s.rules)

one_level : (s : Shape) → s.is_leaf ≡ true → (h : Held) (words : List Text) (b : Bool) (below : Kinds) → AtMostOne below → AtMostOne (level_fault s [] h words b below)
one_level s leaf h words b below p =
    let end = (walk s.rules [] h words).held in
    let check = check_fault s (finished s.rules end) b in
    let defaults = defaults_fault (settled s.rules end).rows s.rules in
    let settle = settle_fault s.rules s.args_override_self end in
    one_else (walk_fault s [] (walk_from h) words) (or_else below (or_else settle (or_else defaults check))) (one_walk s leaf words (walk_from h))
    (one_else below (or_else settle (or_else defaults check)) p
    (one_else settle (or_else defaults check) (one_settle s.rules s.args_override_self end)
    (one_else defaults check (one_defaults s.rules (settled s.rules end).rows) (one_check s (finished s.rules end) b))))

one_entered : (s : Shape) (stop : Option (Text × List Text)) → AtMostOne (entered_fault (record { top = s; subs = [] }) stop)
one_entered s None = nil
one_entered s (Some p) = nil

-- a command without subcommands has one kind of error at the words, or none
pub one_kind : (s : Shape) → s.is_leaf ≡ true → (words : List Text) → AtMostOne (built_fault (record { top = s; subs = [] }) nothing_held words)
one_kind s leaf words =
    let stop = (walk s.rules [] nothing_held words).stopped in
    one_level s leaf nothing_held words (is_some (entered (record { top = s; subs = [] }) stop)) (entered_fault (record { top = s; subs = [] }) stop) (one_entered s stop)
