-- Words denote one command at most.
use Rattle.std.proofs.Common.{◌≡◌, ◌∙◌, ℕ, Bool, true, false, List, codes, Option, Some, None, ap, sym, refl, subst}
use Rattle.std.proofs.Common.{arith}
use Rattle.std.specs.Prelude.{IsTrue, ◌↔◌}
use Rattle.std.specs.Str.Parse.{digits_value, without_leading_plus}
use Rattle.clap.specs.Words.{Text}
use Rattle.command_words.proofs.Naming.{begun, first_byte, second_byte}
use Rattle.command_words.specs.Words.{Asked, Audit, Check, Make, Solve, Command, OfAudit, OfCheck, OfMake, OfSolve}
use Rattle.command_words.specs.Words.{OfSure, AreCommand, AreWordsOf, IsNumber, GivesNumber, SayAsked, SayAudit}
use Rattle.command_words.specs.Words.{SayCheck, SayMake, SaySolve, name_of}

-- an option has one number
one_number : (default : ℕ) (word : Option (List ℕ)) (m n : ℕ) → IsNumber default word m
    → IsNumber default word n → m ≡ n
one_number default None m n of_m of_n = of_m ∙ sym of_n
one_number default (Some w) m n of_m of_n = of_m.value ∙ sym of_n.value

-- what has one test is one
pub one_flag : (P : Type 0) (a b : Bool) → (IsTrue a ↔ P) → (IsTrue b ↔ P) → a ≡ b
one_flag P true true of_a of_b = refl
one_flag P false false of_a of_b = refl
one_flag P true false of_a of_b = sym (of_b.1 (of_a.0 refl))
one_flag P false true of_a of_b = of_a.1 (of_b.0 refl)

same_asked : (t l f t' l' f' : List ℕ) (o o' : Option (List ℕ)) → Some t ≡ Some t' → Some l ≡ Some l'
    → Some f ≡ Some f' → o ≡ o'
    → ◌≡◌ {A = Asked} (record { tra = t; lab = l; formula = f; own = o })
    (record { tra = t'; lab = l'; formula = f'; own = o' })
same_asked t l f t' l' f' o o' a b c d = cc (a, b, c, d)

-- values ask one question
pub one_asked : (value : Text → Option Text) (a b : Asked) → SayAsked value a → SayAsked value b → a ≡ b
one_asked value a b x y =
    same_asked a.tra a.lab a.formula b.tra b.lab b.formula a.own b.own (sym x.tra.given ∙ y.tra.given)
    (sym x.lab.given ∙ y.lab.given) (sym x.formula ∙ y.formula) (x.own ∙ sym y.own)

same_check : (q q' : Asked) (r r' w w' : ℕ) (p p' t t' : Bool) → q ≡ q' → r ≡ r' → w ≡ w' → p ≡ p' → t ≡ t'
    → ◌≡◌ {A = Check} (record { asked = q; rounds = r; workers = w; plan = p; traps = t })
    (record { asked = q'; rounds = r'; workers = w'; plan = p'; traps = t' })
same_check q q' r r' w w' p p' t t' a b c d e = cc (a, b, c, d, e)

-- values say one thing of `check`
one_check : (value : Text → Option Text) (a b : Check) → SayCheck value a → SayCheck value b → a ≡ b
one_check value a b x y = same_check a.asked b.asked a.rounds b.rounds a.workers b.workers a.plan b.plan a.traps b.traps
    (one_asked value a.asked b.asked x.asked y.asked)
    (one_number 10000 (value (codes "rounds")) a.rounds b.rounds x.limits.of_rounds y.limits.of_rounds)
    (one_number 4 (value (codes "workers")) a.workers b.workers x.limits.of_workers y.limits.of_workers)
    (one_flag (value (codes "plan") ≡ Some (codes "true")) a.plan b.plan x.plan y.plan)
    (one_flag (value (codes "traps") ≡ Some (codes "true")) a.traps b.traps x.traps y.traps)

same_audit : (q q' : Asked) (c c' : List ℕ) → q ≡ q' → Some c ≡ Some c'
    → ◌≡◌ {A = Audit} (record { asked = q; certificate = c }) (record { asked = q'; certificate = c' })
same_audit q q' c c' a b = cc (a, b)

-- values say one thing of `audit`
one_audit : (value : Text → Option Text) (a b : Audit) → SayAudit value a → SayAudit value b → a ≡ b
one_audit value a b x y = same_audit a.asked b.asked a.certificate b.certificate
    (one_asked value a.asked b.asked x.asked y.asked) (sym x.certificate.given ∙ y.certificate.given)

same_solve : (q q' : Asked) (v v' : Option (List ℕ)) (p p' : Bool) → q ≡ q' → v ≡ v' → p ≡ p'
    → ◌≡◌ {A = Solve} (record { asked = q; values = v; plan = p }) (record { asked = q'; values = v'; plan = p' })
same_solve q q' v v' p p' a b c = cc (a, b, c)

-- values say one thing of `solve`
one_solve : (value : Text → Option Text) (a b : Solve) → SaySolve value a → SaySolve value b → a ≡ b
one_solve value a b x y = same_solve a.asked b.asked a.values b.values a.plan b.plan
    (one_asked value a.asked b.asked x.asked y.asked) (x.values ∙ sym y.values)
    (one_flag (value (codes "plan") ≡ Some (codes "true")) a.plan b.plan x.plan y.plan)

-- a value gives one number
one_given : (value : Option Text) (m n : ℕ) → GivesNumber value m → GivesNumber value n → m ≡ n
one_given value m n of_m of_n =
    let same : of_m.word ≡ of_n.word = cc (of_m.given, of_n.given) in
    of_m.spelled.value ∙ ap (λ (w : List ℕ). digits_value 10 (without_leading_plus w)) same ∙ sym of_n.spelled.value

same_make : (s s' t t' r r' w w' : ℕ) → s ≡ s' → t ≡ t' → r ≡ r' → w ≡ w'
    → ◌≡◌ {A = Make} (record { seed = s; states = t; rounds = r; workers = w })
    (record { seed = s'; states = t'; rounds = r'; workers = w' })
same_make s s' t t' r r' w w' a b c d = cc (a, b, c, d)

-- values say one thing of `make`
one_make : (value : Text → Option Text) (a b : Make) → SayMake value a → SayMake value b → a ≡ b
one_make value a b x y = same_make a.seed b.seed a.states b.states a.rounds b.rounds a.workers b.workers
    (one_given (value (codes "seed")) a.seed b.seed x.seed y.seed)
    (one_given (value (codes "states")) a.states b.states x.states y.states)
    (one_number 10000 (value (codes "rounds")) a.rounds b.rounds x.limits.of_rounds y.limits.of_rounds)
    (one_number 4 (value (codes "workers")) a.workers b.workers x.limits.of_workers y.limits.of_workers)

-- words behind the name of a command denote one command of that name
one_of_words : (words : List Text) (a b : Command) → name_of b ≡ name_of a → AreWordsOf a words
    → AreWordsOf b words → a ≡ b
one_of_words words (OfCheck a) (OfCheck b) same x y = ap OfCheck (one_check _ a b x.said y.said)
one_of_words words (OfAudit a) (OfAudit b) same x y = ap OfAudit (one_audit _ a b x.said y.said)
one_of_words words (OfMake a) (OfMake b) same x y = ap OfMake (one_make _ a b x.said y.said)
one_of_words words (OfSure a) (OfSure b) same x y = ap OfSure (one_asked _ a b x.said y.said)
one_of_words words (OfSolve a) (OfSolve b) same x y = ap OfSolve (one_solve _ a b x.said y.said)
one_of_words words a b same x y = absurd (omega (arith, first_byte same, second_byte same))

pub one_command : (words : List Text) (a b : Command) → AreCommand words a → AreCommand words b → a ≡ b
one_command words a b of_a of_b =
    let parts = begun (name_of a) of_a.rest b (subst (λ (ws : List Text). AreCommand ws b) of_a.words_are of_b) in
    one_of_words of_a.rest a b parts.0 of_a.behind parts.1
