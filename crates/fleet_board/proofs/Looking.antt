-- What a pass keeps that adds nothing.
use Rattle.fleet_board.proofs.Common.{◌≡◌, ℕ, ◌≤◌, List, [], ◌++◌, length, take, refl, sym, ap, ◌∙◌, append_assoc, append-nil, length-append, arith, take-append-le, Entry, AddsNone, Known, root_of}

-- no call adds nothing, and two that add nothing add nothing together
pub adds_none-same : (k : Known) → AddsNone k k
adds_none-same k = record { sees = record { goes_on = ([], sym (append-nil k.seen)); own_stays = refl }; rest = refl }

pub adds_none-then : (a b c : Known) → AddsNone a b → AddsNone b c → AddsNone a c
adds_none-then a b c first second =
    let (some, to_b) = first.sees.goes_on in
    let (more, to_c) = second.sees.goes_on in
    record {
      sees = record {
        goes_on = (some ++ more, to_c ∙ ap (λ (seen : List Entry). seen ++ more) to_b ∙ append_assoc a.seen some more);
        own_stays = second.sees.own_stays ∙ first.sees.own_stays;
      };
      rest = second.rest ∙ ap (λ (k : Known). record k { seen = c.seen }) first.rest;
    }

-- the board as it began is the same
pub root-stays : (old new : Known) → AddsNone old new → root_of new ≡ root_of old
root-stays old new none = ap root_of none.rest

-- what has been seen begins what is seen
pub first-stay : (old new : Known) (count : ℕ) → AddsNone old new → count ≤ length old.seen → take count new.seen ≡ take count old.seen
first-stay old new count none within =
    let (more, goes_on) = none.sees.goes_on in
    ap (take count) goes_on ∙ take-append-le count old.seen more within

pub seen-grows : (old new : Known) → AddsNone old new → length old.seen ≤ length new.seen
seen-grows old new none =
    let (more, goes_on) = none.sees.goes_on in
    omega (arith, ap (λ (seen : List Entry). length seen) goes_on, length-append old.seen more)
