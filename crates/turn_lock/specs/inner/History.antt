-- Words on a history, whose items each have a maker's number.
use Rattle.std.specs.Prelude.{◌≡◌, ℕ, ◌==◌, List, [], ◌∷◌, ◌++◌, length, filter, All, if◌then◌else◌, nat_le}
use Rattle.turn_lock.specs.declared.rule.Ended.{Ended}

-- of two beginnings of one history, the one that the other begins
abbrev pub longer : {I : Type 0} → List I → List I → List I
longer xs ys = if nat_le (length xs) (length ys) then ys else xs

module _ {I : Type 0} (maker : I → ℕ) where
  -- the items of this number, in their order
  abbrev pub items_of : ℕ → List I → List I
  items_of number history = filter (λ x. maker x == number) history

  -- the items of each number that has ended are all that the history has of it
  abbrev pub EndedStand : List (Ended I) → List I → Type 0
  EndedStand ended history = All (λ e. items_of e.number history ≡ e.items) ended

  -- the history has grown by one item of this number
  pub record GrowsByOne (number : ℕ) (old new : List I) : Type 0 where
    pub item : I
    pub made : maker item ≡ number
    pub grown : new ≡ old ++ item ∷ []
