-- What the code of an event writes is the event's effect, so it keeps the invariant.
use Rattle.std.proofs.Common.{◌≡◌, ◌≢◌, ℕ, zero, suc, ◌<◌, ◌≤◌, List, [], ◌∷◌, ◌++◌, length, get_or, set, arith, refl}
use Rattle.std.proofs.Common.{sym, ap, ◌∙◌, subst}
use Rattle.std.specs.Prelude.{slice_index, Option, Some, None, IsSome, unwrap_or, All}
use Rattle.std.proofs.lemmas.Bool.{true≢false}
use Rattle.std.proofs.lemmas.List.{get_or-set_same, get_or-set_other, length-map, get_or_default}
use Rattle.game_model.specs.Query.{Query, IsQuery, states}
use Rattle.game_model.specs.Limits.{unit}
use Rattle.step_core.specs.Word.{value_in, value_at, values_of, greater_words, opening_words}
use Rattle.step_core.specs.Configuration.{Configuration, seen_by, IsWorld}
use Rattle.step_core.specs.Events.{IsLive, Raises}
use Rattle.step_core.proofs.Sights.{Sees-below}
use Rattle.step_core.proofs.Words.{values_of-at, values_of-is, AreSoundWords-units}
use Rattle.step_core.proofs.Kept.{Sees-seen_by, opening-keeps, looked-keeps, raised-keeps, split-keeps, join-keeps}

abbrev Views : Type 0
Views = List (Option (List ℕ))

-- the element that an index gives
pub view_of-found : (views : Views) (i : ℕ) (view : Option (List ℕ)) → view ≡ get_or views i view
    → IsSome (get_or views i None) → get_or views i None ≡ view
view_of-found [] i view is live = absurd (true≢false (sym live))
view_of-found (v ∷ vs) zero view is live = sym is
view_of-found (v ∷ vs) (suc i) view is live = view_of-found vs i view is live

pub word-found : (words : List ℕ) (i word : ℕ) → word ≡ get_or words i word → i < length words
    → slice_index words i ≡ word
word-found [] i word is inside = absurd (omega arith)
word-found (w ∷ ws) zero word is inside = sym is
word-found (w ∷ ws) (suc i) word is inside = word-found ws i word is (omega arith)

seen-found : (v : Configuration) (i : ℕ) (view : Option (List ℕ)) → view ≡ get_or v.views i view → IsLive v i
    → seen_by v i ≡ unwrap_or view []
seen-found v i view is live = ap (λ (o : Option (List ℕ)). unwrap_or o []) (view_of-found v.views i view is live)

-- a look
pub looked-world : (v w : Configuration) (i state word : ℕ) (view new : Option (List ℕ)) → v ≡ w → IsWorld v
    → IsLive w i → state < states w.question
    → view ≡ get_or v.views i view → word ≡ get_or v.words state word → new ≡ Some (set (unwrap_or view []) state word)
    → IsWorld (record v { views = set v.views i new })
looked-world v w i state word view new same k live inside found read is =
    let live' : IsLive v i = subst (λ (u : Configuration). IsLive u i) (sym same) live in
    let inside' : state < states v.question =
    subst (λ (u : Configuration). state < states u.question) (sym same) inside in
    let there : state < length v.words = subst (λ n. state < n) (sym k.words.as_many) inside' in
    let seen : Some (set (seen_by v i) state (slice_index v.words state)) ≡ new =
    (λ e. Some (set (seen-found v i view found live' e) state (word-found v.words state word read there e))) ∙ sym is in
    subst (λ n. IsWorld (record v { views = set v.views i n })) seen (looked-keeps v i state k live' inside')

-- an exchange
pub raised-world : (v w : Configuration) (i state to : ℕ) (view new : Option (List ℕ)) → v ≡ w → IsWorld v
    → Raises w i state (slice_index w.words state) to
    → view ≡ get_or v.views i view → new ≡ Some (set (unwrap_or view []) state to)
    → IsWorld (record v { words = set v.words state to; views = set v.views i new })
raised-world v w i state to view new same k r found is =
    let r' : Raises v i state (slice_index v.words state) to =
    subst (λ (u : Configuration). Raises u i state (slice_index u.words state) to) (sym same) r in
    let there : state < length v.words = subst (λ n. state < n) (sym k.words.as_many) r'.inside in
    let seen : Some (set (seen_by v i) state (slice_index (set v.words state to) state)) ≡ new =
    (λ e. Some (set (seen-found v i view found r'.live e) state (get_or-set_same v.words state to 0 there e)))
    ∙ sym is in
    subst (λ n. IsWorld (record v { words = set v.words state to; views = set v.views i n })) seen
    (raised-keeps v i state (slice_index v.words state) to k r')

-- a split
pub split-world : (v w : Configuration) (i : ℕ) (copy : Option (List ℕ)) (views : Views) (seen : List ℕ)
    (view : Option (List ℕ)) → v ≡ w → IsWorld v → IsLive w i
    → view ≡ get_or v.views i view → seen ≡ unwrap_or view [] → copy ≡ Some seen → views ≡ v.views ++ copy ∷ []
    → IsWorld (record v { views = views })
split-world v w i copy views seen view same k live found read is all =
    let live' : IsLive v i = subst (λ (u : Configuration). IsLive u i) (sym same) live in
    let copied : Some (seen_by v i) ≡ copy = ap Some (seen-found v i view found live' ∙ sym read) ∙ sym is in
    subst (λ vs. IsWorld (record v { views = vs })) (ap (λ c. v.views ++ c ∷ []) copied ∙ sym all)
    (split-keeps v i k live')

-- a join
pub join-world : (v w : Configuration) (i j : ℕ) (spent taken view new : Option (List ℕ)) → v ≡ w → IsWorld v
    → IsLive w i → IsLive w j → i ≢ j
    → taken ≡ get_or v.views j taken → spent ≡ None → view ≡ get_or (set v.views j spent) i view
    → new ≡ Some (greater_words (unwrap_or view []) (unwrap_or taken []))
    → IsWorld (record v { views = set (set v.views j spent) i new })
join-world v w i j spent taken view new same k live there apart found gone mine is =
    let live' : IsLive v i = subst (λ (u : Configuration). IsLive u i) (sym same) live in
    let there' : IsLive v j = subst (λ (u : Configuration). IsLive u j) (sym same) there in
    let mine' : view ≡ get_or v.views i view = mine ∙ get_or-set_other v.views j i spent view apart in
    let both : Some (greater_words (seen_by v i) (seen_by v j)) ≡ new =
    (λ e. Some (greater_words (seen-found v i view mine' live' e) (seen-found v j taken found there' e))) ∙ sym is in
    subst (λ (vs : Views). IsWorld (record v { views = vs })) (λ e. set (set v.views j (sym gone e)) i (both e))
    (join-keeps v i j k live' there')

-- two lists of words that agree at each place
pub words-same : (xs ys : List ℕ) → length xs ≡ length ys → ((s : ℕ) → slice_index xs s ≡ slice_index ys s) → xs ≡ ys
words-same [] [] many each = refl
words-same [] (y ∷ ys) many each = absurd (omega arith)
words-same (x ∷ xs) [] many each = absurd (omega arith)
words-same (x ∷ xs) (y ∷ ys) many each = λ e. each zero e ∷ words-same xs ys (omega arith) (λ s. each (suc s)) e

-- the opening world
pub opened-world : (q : Query) (words seen : List ℕ) (view : Option (List ℕ)) (none views : Views) → IsQuery q
    → words ≡ opening_words q → seen ≡ words → view ≡ Some seen → none ≡ [] → views ≡ none ++ view ∷ []
    → IsWorld (record { question = q; words = words; views = views })
opened-world q words seen view none views h opens read is empty all =
    let seen_is : opening_words q ≡ seen = sym (read ∙ opens) in
    let view_is : Some (opening_words q) ≡ view = ap Some seen_is ∙ sym is in
    subst IsWorld (λ e. record {
      question = q;
      words = sym opens e;
      views = ((λ d. sym empty d ++ view_is d ∷ []) ∙ sym all) e;
    }) (opening-keeps q h)

-- the values that a view has seen, as a table of units
module _ (v w : Configuration) (i : ℕ) (view : Option (List ℕ)) (values : List ℕ) (same : v ≡ w) (k : IsWorld v)
    (live : IsLive w i) (found : view ≡ get_or v.views i view) (read : values ≡ values_of (unwrap_or view [])) where
  live' : IsLive v i
  live' = subst (λ (u : Configuration). IsLive u i) (sym same) live

  values-seen : values ≡ values_of (seen_by v i)
  values-seen = read ∙ ap values_of (sym (seen-found v i view found live'))

  pub values-many : length values ≡ states w.question
  values-many =
      let sees = Sees-seen_by v i k live' in
      ap length values-seen ∙ length-map (seen_by v i) value_in ∙ sees.as_many
      ∙ ap (λ (u : Configuration). states u.question) same

  pub values-units : All (λ n. n ≤ unit) values
  values-units place d inside =
      let sees = Sees-seen_by v i k live' in
      let there : place < states v.question =
      subst (λ n. place < n) (values-many ∙ sym (ap (λ (u : Configuration). states u.question) same)) inside in
      let at : get_or values place d ≡ value_at (seen_by v i) place = get_or_default values place d 0 inside
      ∙ ap (λ vs. slice_index vs place) values-seen ∙ values_of-at (seen_by v i) place in
      omega (
        arith,
        at,
        Sees-below v.question v.words (seen_by v i) sees place,
        AreSoundWords-units v.question v.words k.words place there,
      )

  pub values-table : slice_index values ≡ value_at (seen_by w i)
  values-table = ap slice_index values-seen ∙ values_of-is (seen_by v i)
      ∙ ap (λ (u : Configuration). value_at (seen_by u i)) same
