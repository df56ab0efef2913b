-- The entries of a pass's number are those of its actor, since actors have the numbers 1 and 2.
use Rattle.fleet_board.proofs.Common.{◌≡◌, ℕ, ◌+◌, Bool, cond, List, [], ◌∷◌, ◌++◌, eqb, refl, arith, All, filter, AllByRecursion, ne_eqb, recursion_from_All, Actor, Feed, Desk, Entry, entries_of, is_actor, IsOneOrTwo, IsSpelledActor, HasLine, items_of, pass_number, maker_of}

-- what stands behind a list that is the whole
pub nothing_behind : {X : Type 0} (xs ys : List X) → xs ++ ys ≡ xs → ys ≡ []
nothing_behind [] ys same = same
nothing_behind {X} (x ∷ xs) ys same = nothing_behind xs ys (rest x (xs ++ ys) xs same)
  where
    rest : (y : X) (as' bs : List X) → y ∷ as' ≡ y ∷ bs → as' ≡ bs
    rest y as' bs e = cc e

-- whether an actor's pass has a feed's number
feed-number : (actor : Actor) (n : ℕ) → IsSpelledActor actor → IsOneOrTwo n → eqb (pass_number actor) n ≡ is_actor actor (Feed n)
feed-number (Feed a) n spelled fits = refl
feed-number (Desk a) n (low, high) (from, to) = ne_eqb (a + 2) n (λ e. absurd (omega (arith, e)))

-- whether it has a desk's number
desk-number : (actor : Actor) (n : ℕ) → IsSpelledActor actor → IsOneOrTwo n → eqb (pass_number actor) (n + 2) ≡ is_actor actor (Desk n)
desk-number (Feed a) n (low, high) (from, to) = ne_eqb a (n + 2) (λ e. absurd (omega (arith, e)))
desk-number (Desk a) n spelled fits = both a n
  where
    both : (x y : ℕ) → eqb (x + 2) (y + 2) ≡ eqb x y
    both x y = grind arith

-- two tests that agree on entries with a line keep the same of them
same-kept : (p q : Entry → Bool) (log : ℕ) → ((entry : Entry) → HasLine log entry → p entry ≡ q entry) → (entries : List Entry)
    → AllByRecursion (HasLine log) entries → filter p entries ≡ filter q entries
same-kept p q log agree [] lines = refl
same-kept p q log agree (entry ∷ entries) (line, lines) =
    let later = same-kept p q log agree entries lines in
    λ i. cond (agree entry line i) (entry ∷ later i) (later i)

-- of a feed
pub items-feed : (log n : ℕ) (entries : List Entry) → All (HasLine log) entries → IsOneOrTwo n
    → items_of maker_of n entries ≡ entries_of (Feed n) entries
unfolding entries_of
items-feed log n entries lines fits =
    same-kept (λ (entry : Entry). eqb (maker_of entry) n) (λ (entry : Entry). is_actor entry.actor (Feed n)) log
    (λ entry line. feed-number entry.actor n line.actor fits) entries (recursion_from_All (HasLine log) entries lines)

-- of a desk
pub items-desk : (log n : ℕ) (entries : List Entry) → All (HasLine log) entries → IsOneOrTwo n
    → items_of maker_of (n + 2) entries ≡ entries_of (Desk n) entries
unfolding entries_of
items-desk log n entries lines fits =
    same-kept (λ (entry : Entry). eqb (maker_of entry) (n + 2)) (λ (entry : Entry). is_actor entry.actor (Desk n)) log
    (λ entry line. desk-number entry.actor n line.actor fits) entries (recursion_from_All (HasLine log) entries lines)
