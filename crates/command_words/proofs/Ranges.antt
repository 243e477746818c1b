-- A number that `clap` takes for an option is in the option's range.
use Rattle.std.proofs.Common.{◌≡◌, ◌∙◌, ◌<◌, ◌≤◌, ◌&&◌, ℕ, Bool, true, false, not, true≢false, zero, suc, List, [], ◌∷◌}
use Rattle.std.proofs.Common.{map, length, get_or, codes, Option, Some, None, refl, sym, ap, subst, inl, inr, arith}
use Rattle.std.specs.Prelude.{option_map, option_and_then, slice_get, pos}
use Rattle.std.specs.List.{All, list_all, slice_index_or}
use Rattle.std.specs.Str.{bytes_eq}
use Rattle.std.specs.Borrow.{Bor}
use Rattle.std.specs.Str.Parse.{IsNumeral, starts_with_minus, without_leading_plus}
use Rattle.std.proofs.lemmas.List.{length-map, get_or-map}
use Rattle.std.proofs.lemmas.List.Elements.{All-head}
use Rattle.std.proofs.lemmas.Int.{ints}
use Rattle.std.proofs.lemmas.Bool.{ne_eqb}
use Rattle.std.proofs.lemmas.Slice.Eq.{bytes_eq-Decides}
use Rattle.std.proofs.lemmas.Str.Parse.{digit_from_value}
use Rattle.clap.specs.Words.{App, Rule, Text, app_of, rule_of, new_rule, found_of, first_value, matched_of, Accepts}
use Rattle.clap.specs.Words.{IsSignedIn, IsParsedFrom}
use Rattle.clap.specs.Facts.{PassesArg, EntryPasses, args_of, groups_of, parser_of, parser_of_value}
use Rattle.clap.specs.Built.{IsAuto}
use Rattle.clap.specs.declared.builder.arg.Arg.{Arg}
use Rattle.clap.specs.declared.builder.command.Command.{Command}
use Rattle.clap.specs.declared.builder.value_parser.ValueParser.{ValueParser}
use Rattle.clap.specs.declared.builder.value_parser.ValueParser.TheVariants as vp
use Rattle.clap.specs.declared.parser.matches.ArgMatches.{ArgMatches}
use Rattle.clap.specs.declared.parser.matches.Found.{Found}
use Rattle.clap.specs.declared.parser.matches.MatchedArg.{MatchedArg}
use Rattle.clap.proofs.CallerLemmas.{entry_by_id, same_rules_by_id}
use Rattle.clap.proofs.SimpleLemmas.{all_simple, simple_groups, plain_fields}
use Rattle.clap.proofs.WalkLemmas.{both}
use Rattle.command_words.specs.Grammar.{check_app, make_app, value_in}
use Rattle.command_words.specs.Words.{Check, Make, Spells, IsNumber, GivesNumber, SayRunLimits, SayCheck, SayMake}
use Rattle.command_words.specs.Words.{AreRunLimits, AreInRange, IsMakeInRange}

-- 1. A value that was found passed the test of its rule.

-- the entry of a value that was found, and the value in it
record HasEntry (f : Found) (name value : Text) : Type 0 where
  pub entry : MatchedArg
  pub first : Bor (List ℕ)
  pub found : matched_of f name ≡ Some entry
  pub is_first : slice_get entry.vals.items 0 ≡ Some first
  pub is_value : first.now ≡ value

entry_found : (f : Found) (name value : Text) → first_value f name ≡ Some value → HasEntry f name value
entry_found f name value is = go (matched_of f name) refl is
  where
    first : (x : MatchedArg) → matched_of f name ≡ Some x → (o : Option (Bor (List ℕ))) → slice_get x.vals.items 0 ≡ o
        → option_map (λ s. s.now) o ≡ Some value → HasEntry f name value
    first x found None at same = cc (same)
    first x found (Some v) at same = record { entry = x; first = v; found = found; is_first = at; is_value = cc (same) }

    go : (o : Option MatchedArg) → matched_of f name ≡ o
        → option_and_then (λ x. option_map (λ s. s.now) (slice_get x.vals.items 0)) o ≡ Some value
        → HasEntry f name value
    go None found same = cc (same)
    go (Some x) found same = first x found (slice_get x.vals.items 0) refl same

first_has : (P : Bor (List ℕ) → Type 0) (values : List (Bor (List ℕ))) (v : Bor (List ℕ)) → All P values
    → slice_get values 0 ≡ Some v → P v
first_has P [] v all is = cc (is)
first_has P (w ∷ values) v all is =
    let same : w ≡ v = cc (is) in
    subst P same (All-head P w values all)

-- the rule at a place of a grammar
abbrev rule_at : App → ℕ → Rule
rule_at app k = get_or app.top.rules k (new_rule [])

abbrev is_named : Text → Rule → Bool
is_named name rule = bytes_eq rule.id name

-- no rule but the one at this place has the name
abbrev is_alone : Text → List Rule → ℕ → Bool
is_alone name [] k = true
is_alone name (rule ∷ rules) zero = list_all (λ r. not (is_named name r)) rules
is_alone name (rule ∷ rules) (suc k) = not (is_named name rule) && is_alone name rules k

-- the name is none of `clap`'s own
abbrev is_own : Text → Bool
is_own name = not (bytes_eq name []) && (not (bytes_eq name (codes "help")) && not (bytes_eq name (codes "version")))

-- a command has this grammar, of arguments that `clap` keeps as they are
record HasGrammar (app : App) (command : Command) : Type 0 where
  pub same : app_of command ≡ app
  pub plain : app.top.is_plain ≡ true
  pub simple : all_simple app.top.rules ≡ true

-- the rule at a place of a grammar is that of a number of this name, and no other has the name
record HasNumber (app : App) (k low high : ℕ) (name : Text) : Type 0 where
  pub inside : k < length app.top.rules
  pub id : (rule_at app k).id ≡ name
  pub parser : (rule_at app k).parser ≡ Some (vp.Signed (pos low) (pos high))
  pub alone : is_alone name app.top.rules k ≡ true
  pub own : is_own name ≡ true

refuted : (b : Bool) → not b ≡ true → b ≡ true → ⊥
refuted b denied holds = true≢false (sym denied ∙ ap not holds)

differs : (s t : Text) → not (bytes_eq s t) ≡ true → s ≡ t → ⊥
differs s t unlike same = refuted (bytes_eq s t) unlike ((bytes_eq-Decides s t).1 same)

own_named : (name : Text) → is_own name ≡ true
    → (name ≡ [] → ⊥) × (name ≡ codes "help" → ⊥) × (name ≡ codes "version" → ⊥)
own_named name own =
    let some = both _ _ own in
    let no_flag = both _ _ some.1 in
    (differs name [] some.0, differs name (codes "help") no_flag.0, differs name (codes "version") no_flag.1)

none_named : (name : Text) (rules : List Rule) (j : ℕ) → list_all (λ r. not (is_named name r)) rules ≡ true
    → j < length rules → is_named name (get_or rules j (new_rule [])) ≡ true → ⊥
none_named name [] j none under named = absurd (omega arith)
none_named name (rule ∷ rules) zero none under named = refuted (is_named name rule) (both _ _ none).0 named
none_named name (rule ∷ rules) (suc j) none under named = none_named name rules j (both _ _ none).1 (omega arith) named

one_place : (name : Text) (rules : List Rule) (k j : ℕ) → is_alone name rules k ≡ true → j < length rules
    → is_named name (get_or rules j (new_rule [])) ≡ true → j ≡ k
one_place name [] k j alone under named = absurd (omega arith)
one_place name (rule ∷ rules) zero zero alone under named = refl
one_place name (rule ∷ rules) zero (suc j) alone under named =
    absurd (none_named name rules j alone (omega arith) named)
one_place name (rule ∷ rules) (suc k) zero alone under named =
    absurd (refuted (is_named name rule) (both _ _ alone).0 named)
one_place name (rule ∷ rules) (suc k) (suc j) alone under named =
    ap suc (one_place name rules k j (both _ _ alone).1 (omega arith) named)

-- the arguments of a command with a grammar
module _ (app : App) (command : Command) (grammar : HasGrammar app command) where
  args_are : map rule_of (args_of command) ≡ app.top.rules
  args_are = ap (λ (a : App). a.top.rules) grammar.same

  how_many : length (args_of command) ≡ length app.top.rules
  how_many = sym (length-map (args_of command) rule_of) ∙ ap length args_are

  rule_is : (k : ℕ) (d : Arg) → k < length (args_of command)
      → rule_of (slice_index_or (args_of command) k d) ≡ rule_at app k
  rule_is k d under = sym (get_or-map rule_of (args_of command) k d (new_rule []) under)
      ∙ ap (λ (rs : List Rule). get_or rs k (new_rule [])) args_are

  -- a value that was found under the name of a number is in its range
  number_found : (m : ArgMatches) (k low high : ℕ) (name value : Text) → IsParsedFrom command m
      → HasNumber app k low high name → first_value (found_of m) name ≡ Some value
      → IsSignedIn (pos low) (pos high) value
  number_found m k low high name value p number is =
      let fields = plain_fields command (ap (λ (a : App). a.top.is_plain) grammar.same ∙ grammar.plain) in
      let in_no_group =
      simple_groups command (ap (λ (a : App). all_simple a.top.rules) grammar.same ∙ grammar.simple) in
      let groups : groups_of p.built ≡ [] = (p.from.same_groups in_no_group).1 ∙ fields.groups in
      let passed = (p.parsed (p.from.globals ∙ fields.globals)).values in
      let has = entry_found (found_of m) name value is in
      let e = entry_by_id (EntryPasses p.built) (found_of m).entries.items name has.entry passed has.found in
      let key : e.0.0.now ≡ name = (bytes_eq-Decides e.0.0.now name).0 e.2 in
      let own_name = own_named name number.own in
      let no_group : e.0.1.is_group ≡ true → ⊥ = λ group. elim (e.3.3 group) [
        | inl empty ↦ own_name.0 (sym key ∙ empty)
        | inr some ↦
            let bad : 0 < 0 = rw groups at some in
            absurd (omega arith)
      ] in
      let all : All (λ v. PassesArg p.built e.0.0.now v.now) e.0.1.vals.items = elim e.3.0 [
        | inl group ↦ absurd (no_group group)
        | inr values ↦ values
      ] in
      let pass = first_has (λ v. PassesArg p.built e.0.0.now v.now) e.0.1.vals.items has.first all
      (ap (λ (x : MatchedArg). slice_get x.vals.items 0) e.1 ∙ has.is_first) in
      let under : k < length (args_of command) = let many = how_many in let inside = number.inside in omega arith in
      let x = pass.1 in
      let own = slice_index_or (args_of command) k x in
      let own_rule : rule_of own ≡ rule_at app k = rule_is k x under in
      let own_id : own.id.now ≡ name = ap (λ (r : Rule). r.id) own_rule ∙ number.id in
      let alone : (j : ℕ) (d : Arg) → j < length (args_of command)
      → bytes_eq (slice_index_or (args_of command) j d).id.now own.id.now ≡ true → j ≡ k = λ j d below alike.
      let many = how_many in
      let at_name : bytes_eq (slice_index_or (args_of command) j d).id.now name ≡ true =
      subst (λ (t : Text). bytes_eq (slice_index_or (args_of command) j d).id.now t ≡ true) own_id alike in
      one_place name app.top.rules k j number.alone (omega arith)
      (subst (λ (t : Text). bytes_eq t name ≡ true) (ap (λ (r : Rule). r.id) (rule_is j d below)) at_name) in
      let no_auto : IsAuto own → ⊥ = λ auto. elim auto [
        | inl h ↦ own_name.1 (sym own_id ∙ h)
        | inr h ↦ own_name.2 (sym own_id ∙ h)
      ] in
      let alike : bytes_eq x.id.now own.id.now ≡ true =
      subst (λ (t : Text). bytes_eq x.id.now t ≡ true) (key ∙ sym own_id) pass.4.0 in
      let s = same_rules_by_id command m p k x under alone no_auto pass.0 x pass.2 pass.3 alike in
      let parser : parser_of x ≡ vp.Signed (pos low) (pos high) = ap parser_of_value
      (s.parser (vp.Signed (pos low) (pos high)) (ap (λ (r : Rule). r.parser) own_rule ∙ number.parser)) in
      subst (λ (t : Text). IsSignedIn (pos low) (pos high) t) has.is_value
      (subst (λ (q : ValueParser). Accepts x.ignore_case q has.first.now) parser pass.4.1)

-- 2. The number that such a value spells.

no_minus : (word : List ℕ) → IsNumeral 10 (without_leading_plus word) → starts_with_minus word ≡ false
no_minus [] digits = refl
no_minus (x ∷ word) digits = ne_eqb _ _ (λ is. omega
    (arith, digit_from_value 45 (subst (λ (y : ℕ). IsNumeral 10 (without_leading_plus (y ∷ word))) is digits).1.0))

spelled_in : (low high n : ℕ) (word : List ℕ) → IsSignedIn (pos low) (pos high) word → Spells word n
    → (low ≤ n) × (n ≤ high)
spelled_in low high n word range spells =
    let minus = no_minus word spells.digits in
    let least = rw minus at range.2 in
    let most = rw minus at range.3 in
    (rw spells.value (omega (arith, ints)), rw spells.value (omega (arith, ints)))

number_in : (default low high n : ℕ) (word : Option (List ℕ)) → low ≤ default → default ≤ high
    → ((w : List ℕ) → word ≡ Some w → IsSignedIn (pos low) (pos high) w) → IsNumber default word n
    → (low ≤ n) × (n ≤ high)
number_in default low high n None least most range is = (omega arith, omega arith)
number_in default low high n (Some w) least most range is = spelled_in low high n w (range w refl) is

given_in : (low high n : ℕ) (word : Option (List ℕ))
    → ((w : List ℕ) → word ≡ Some w → IsSignedIn (pos low) (pos high) w) → GivesNumber word n → (low ≤ n) × (n ≤ high)
given_in low high n word range is = spelled_in low high n is.word (range is.word is.given) is.spelled

-- 3. The numbers of a command.

module _ (app : App) (command : Command) (grammar : HasGrammar app command) (m : ArgMatches)
    (p : IsParsedFrom command m) where
  limits_in_range : (i j rounds workers : ℕ) → HasNumber app i 0 1000000 (codes "rounds")
      → HasNumber app j 1 64 (codes "workers") → SayRunLimits (value_in m) rounds workers → AreRunLimits rounds workers
  limits_in_range i j rounds workers at_rounds at_workers said =
      let some_rounds = number_in 10000 0 1000000 rounds (value_in m (codes "rounds")) (omega arith) (omega arith)
      (λ w is. number_found app command grammar m i 0 1000000 (codes "rounds") w p at_rounds is) said.of_rounds in
      let some_workers = number_in 4 1 64 workers (value_in m (codes "workers")) (omega arith) (omega arith)
      (λ w is. number_found app command grammar m j 1 64 (codes "workers") w p at_workers is) said.of_workers in
      record { few_rounds = some_rounds.1; some_workers = some_workers.0; few_workers = some_workers.1 }

  given_in_range : (k low high n : ℕ) (name : Text) → HasNumber app k low high name → GivesNumber (value_in m name) n
      → (low ≤ n) × (n ≤ high)
  given_in_range k low high n name number said = given_in low high n (value_in m name)
      (λ w is. number_found app command grammar m k low high name w p number is) said

pub check_in_range : (command : Command) (m : ArgMatches) (check : Check) → app_of command ≡ check_app
    → IsParsedFrom command m → SayCheck (value_in m) check → AreInRange check
check_in_range command m check same p said =
    let grammar : HasGrammar check_app command = record { same = same; plain = refl; simple = refl } in
    let rounds : HasNumber check_app 4 0 1000000 (codes "rounds") =
    record { inside = omega arith; id = refl; parser = refl; alone = refl; own = refl } in
    let workers : HasNumber check_app 5 1 64 (codes "workers") =
    record { inside = omega arith; id = refl; parser = refl; alone = refl; own = refl } in
    limits_in_range check_app command grammar m p 4 5 check.rounds check.workers rounds workers said.limits

pub make_in_range : (command : Command) (m : ArgMatches) (make : Make) → app_of command ≡ make_app
    → IsParsedFrom command m → SayMake (value_in m) make → IsMakeInRange make
make_in_range command m make same p said =
    let grammar : HasGrammar make_app command = record { same = same; plain = refl; simple = refl } in
    let seed_rule : HasNumber make_app 0 1 2147483646 (codes "seed") =
    record { inside = omega arith; id = refl; parser = refl; alone = refl; own = refl } in
    let states_rule : HasNumber make_app 1 3 1000000 (codes "states") =
    record { inside = omega arith; id = refl; parser = refl; alone = refl; own = refl } in
    let rounds : HasNumber make_app 2 0 1000000 (codes "rounds") =
    record { inside = omega arith; id = refl; parser = refl; alone = refl; own = refl } in
    let workers : HasNumber make_app 3 1 64 (codes "workers") =
    record { inside = omega arith; id = refl; parser = refl; alone = refl; own = refl } in
    let seed =
    given_in_range make_app command grammar m p 0 1 2147483646 make.seed (codes "seed") seed_rule said.seed in
    let states =
    given_in_range make_app command grammar m p 1 3 1000000 make.states (codes "states") states_rule said.states in
    record {
      some_seed = seed.0;
      low_seed = seed.1;
      some_states = states.0;
      few_states = states.1;
      limits = limits_in_range make_app command grammar m p 2 3 make.rounds make.workers rounds workers said.limits;
    }
