-- Boards that are finished.
use Rattle.board_core.proofs.Common.{◌≡◌, ℕ, ◌≤◌, not, ◌&&◌, cond, inl, inr, List, [], ◌∷◌, eqb, refl, sym, ◌∙◌, ap, subst, arith, ◌==◌, Option, Some, None, option_map, find, All, IsTrue, ◌↔◌, list_all, range_with_len, eqb-true, eq-eqb, not-true, and_from, and_parts, Feed, Desk, ended_whole, IsFinished, Among, of_all, BatchCopy, State, open_batch_of, IsOneOrTwo, IsConsistent, IsOpenBatch, fed_total, Desks, Numbered, Service, Given, all_whole, is_finished, Mirrors, IsBoard, at_number, one_if_some, count_in, Recorded, state_of}
use Rattle.board_core.proofs.Numbering.{one_or_two}
use Rattle.board_core.proofs.Boards.{board-consistent}

-- no value of the two where none is counted
no-values : (pair : Numbered ℕ) (n : ℕ) → count_in pair ≡ 0 → IsOneOrTwo n → at_number pair n ≡ None
no-values pair n none fits =
    elim (one_or_two n fits) [
      | inl is ↦ subst (λ k. at_number pair k ≡ None) (sym is) (empty pair.first (omega (arith, none)))
      | inr is ↦ subst (λ k. at_number pair k ≡ None) (sym is) (empty pair.second (omega (arith, none)))
    ]
  where
    empty : (o : Option ℕ) → one_if_some o ≤ 0 → o ≡ None
    empty None h = refl
    empty (Some x) h = absurd (omega (arith, h))

-- none is counted where there is none
none-counted : (pair : Numbered ℕ) → at_number pair 1 ≡ None → at_number pair 2 ≡ None → count_in pair ≡ 0
none-counted pair first second = omega (arith, ap one_if_some first, ap one_if_some second)

-- no batch is open where no desk has one
none-open : (desks : ℕ) (pair : Numbered ℕ) (s : State) (batches : List BatchCopy) → desks ≤ 2 → s.batches ≡ batches → All (IsOpenBatch desks s) s.batches
    → ((desk : ℕ) → option_map (λ (batch : BatchCopy). batch.number) (open_batch_of s desk) ≡ at_number pair desk)
    → count_in pair ≡ 0 → batches ≡ []
none-open desks pair s [] fits are each mirrors none = refl
none-open desks pair s (b ∷ bs) fits are each mirrors none =
    let fine = of_all (IsOpenBatch desks s) s.batches b each (subst (Among b) (sym are) (inl refl)) in
    let found : open_batch_of s b.desk ≡ Some b
    = ap (find (λ (batch : BatchCopy). batch.desk == b.desk)) are
    ∙ ap (λ t. cond t (Some b) (find (λ (batch : BatchCopy). batch.desk == b.desk) bs)) (eq-eqb b.desk b.desk refl) in
    absurd (some_none b.number (sym (ap (option_map (λ (batch : BatchCopy). batch.number)) found) ∙ mirrors b.desk
    ∙ no-values pair b.desk none (fine.desk_in.0, omega (arith, fine.desk_in.1, fits))))
  where
    some_none : (n : ℕ) → Some n ≡ None → ⊥
    some_none n e = cc e

-- whether a board is finished
pub finished-is : (setup : Given) (service : Service) (kept : Desks) (capacity : ℕ) (board : Recorded) → IsBoard setup service kept capacity board
    → IsTrue (is_finished kept board.feeds board.desks service.asked) ↔ IsFinished board.feeds board.desks board.start board.history
finished-is setup service kept capacity board is = (
  (λ whole.
      let (four, not_given) = and_parts (all_whole kept.feeds_ended board.feeds && all_whole kept.desks_ended board.desks && eqb kept.opened service.asked
      && eqb (count_in kept.batches) 0) (not kept.given_up) whole in
      let (three, none) = and_parts (all_whole kept.feeds_ended board.feeds && all_whole kept.desks_ended board.desks && eqb kept.opened service.asked)
      (eqb (count_in kept.batches) 0) four in
      let (two, opened) = and_parts (all_whole kept.feeds_ended board.feeds && all_whole kept.desks_ended board.desks) (eqb kept.opened service.asked) three in
      let (feeds, desks) = and_parts (all_whole kept.feeds_ended board.feeds) (all_whole kept.desks_ended board.desks) two in
      record {
        feeds_whole = feeds_are ∙ feeds;
        desks_whole = desks_are ∙ desks;
        all_opened = sym m.opened_is ∙ eqb-true kept.opened service.asked opened ∙ sym asked_is;
        none_open = none-open board.desks kept.batches s s.batches is.recorded.desks_fit.1 refl c.batches_fit m.open_are
            (eqb-true (count_in kept.batches) 0 none);
        none_given_up = sym m.given_up_is ∙ not-true kept.given_up not_given;
      }),
  (λ f.
      and_from (all_whole kept.feeds_ended board.feeds && all_whole kept.desks_ended board.desks && eqb kept.opened service.asked
      && eqb (count_in kept.batches) 0) (not kept.given_up)
      (and_from (all_whole kept.feeds_ended board.feeds && all_whole kept.desks_ended board.desks && eqb kept.opened service.asked)
      (eqb (count_in kept.batches) 0)
      (and_from (all_whole kept.feeds_ended board.feeds && all_whole kept.desks_ended board.desks) (eqb kept.opened service.asked)
      (and_from (all_whole kept.feeds_ended board.feeds) (all_whole kept.desks_ended board.desks)
      (sym feeds_are ∙ f.feeds_whole) (sym desks_are ∙ f.desks_whole))
      (eq-eqb kept.opened service.asked (m.opened_is ∙ f.all_opened ∙ asked_is)))
      (eq-eqb (count_in kept.batches) 0 (none-counted kept.batches (nothing 1 f.none_open) (nothing 2 f.none_open))))
      (ap not (m.given_up_is ∙ f.none_given_up))),
)
  where
    s : State
    s = state_of board

    m : Mirrors setup service kept s board.history
    m = is.mirrors

    c : IsConsistent board.desks (fed_total board.history) board.start s
    c = board-consistent setup service kept capacity board is

    asked_is : s.asked ≡ service.asked
    asked_is = ap (λ (t : State). t.asked) m.state_is

    feeds_are : list_all (λ n. ended_whole s (Feed n)) (range_with_len 1 board.feeds) ≡ all_whole kept.feeds_ended board.feeds
    feeds_are = λ i. list_all (λ n. m.whole_are (Feed n) i) (range_with_len 1 board.feeds)

    desks_are : list_all (λ n. ended_whole s (Desk n)) (range_with_len 1 board.desks) ≡ all_whole kept.desks_ended board.desks
    desks_are = λ i. list_all (λ n. m.whole_are (Desk n) i) (range_with_len 1 board.desks)

    nothing : (desk : ℕ) → s.batches ≡ [] → at_number kept.batches desk ≡ None
    nothing desk none = sym (m.open_are desk)
        ∙ ap (λ batches. option_map (λ (batch : BatchCopy). batch.number) (find (λ (batch : BatchCopy). batch.desk == desk) batches)) none
