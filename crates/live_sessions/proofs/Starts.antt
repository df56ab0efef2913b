-- The actors of a session that is ready may run.
use Rattle.live_sessions.proofs.Common.{◌≡◌, ◌≢◌, ℕ, ◌+◌, ◌-◌, ◌≤◌, Bool, true, false, not, List, Option, Some, None, refl, sym, ap, subst, ◌∙◌, arith, IfSome, IsFalse, MatchOption, is_some, length, Feed, Entry, entries_of, fed_commands, most_earlier_commands, BatchCopy, has_ended, open_batch_numbered, open_batch_of, IsOneOrTwo, FeedForm, most_lines, Recorded, state_of, knowledge, Known, commands_in, desk_of, root_of, seen_state, IsTold, Feeder, Stage, MayRunDesk, MayRunFeeder, IsDeskOf, IsFeederOf, IsReady, MayRunActors, board_of}
use Rattle.ride_model.specs.declared.command.Actor.TheVariants.{Desk as DeskNumbered}
use Rattle.command_lines.specs.inner.Limits.{IsForm}
use Rattle.board_core.proofs.OpenBatches.{open-priceable}
use Rattle.batch_commit.specs.inner.Table.{IsPriceable}
use Rattle.fleet_board.specs.Roles.{MayCommit, MayOpen}
use Rattle.fleet_board.proofs.Parts.{items-desk, items-feed}
use Rattle.fleet_board.proofs.Standing.{standing-desk, standing-feed, standing-open}
use Rattle.live_sessions.specs.declared.desk_pairs.Desk.{Desk}
use Rattle.live_sessions.proofs.OpenDesks.{of-desk}

-- what is not true is false
untrue : (b : Bool) → not b ≡ true → b ≡ false
untrue true is = sym is
untrue false is = refl

module _ (stage : Stage) (ready : IsReady stage) where
  abbrev old : Recorded
  old = board_of stage

  abbrev log : ℕ
  log = old.start.settings.log

  pub told-of : IsTold old
  told-of = record { start_fits = ready.scribe_point.start_fits; legal = ready.scribe_point.legal; text = ready.scribe_point.text }

  -- what is a feed's own, and a desk's
  pub own-feed : (n : ℕ) (feeder : Feeder) → IsOneOrTwo n → IsFeederOf stage.board old n feeder
      → (knowledge feeder.pass).own ≡ entries_of (Feed n) old.history
  own-feed n feeder fits its = ap (λ (k : Known). k.own) its.pass.0.1 ∙ items-feed log n old.history told-of.text.lines fits

  pub own-desk : (n : ℕ) (desk : Desk) → IsOneOrTwo n → IsDeskOf stage.board old n desk
      → (knowledge desk.pass).own ≡ entries_of (DeskNumbered n) old.history
  own-desk n desk fits its = ap (λ (k : Known). k.own) its.pass.0.1 ∙ items-desk log n old.history told-of.text.lines fits

  may-feed : (n : ℕ) (feeder : Feeder) → IsOneOrTwo n → n ≤ old.feeds → IsFeederOf stage.board old n feeder
      → MayRunFeeder stage.board feeder
  may-feed n feeder fits there its = record {
    may_use = its.pass.0.0;
    going = λ lives. record {
      feed = record {
        may_use = its.pass.0.0;
        point = its.pass.1;
        feed = standing-feed old n (knowledge feeder.pass) its.pass.0.1 (fits.0, there)
            (untrue (has_ended (state_of old) (Feed n)) (sym its.stands.lives_is ∙ lives));
      };
      form_is = subst IsForm (sym its.stands.form_is) (record {
        log_fits = told-of.text.log_version;
        few_lines = fewer (length (fed_commands n old.history));
      });
      log_is = ap (λ (f : FeedForm). f.log) its.stands.form_is ∙ sym (ap (λ (k : Known). (root_of k).start.settings.log) its.pass.0.1);
      few = subst (λ (own : List Entry). length (commands_in own) ≤ most_earlier_commands) (sym (own-feed n feeder fits its)) (ready.few n);
    };
  }
    where
      fewer : (answered : ℕ) → most_lines - answered ≤ most_lines
      fewer answered = omega arith

  may-desk : (n : ℕ) (desk : Desk) → IsOneOrTwo n → n ≤ old.desks → IsDeskOf stage.board old n desk → MayRunDesk stage.board desk
  may-desk n desk fits there its = record {
    may_use = its.pass.0.0;
    going = λ lives. by_batch lives desk.open_batch its.equipped.batch_is;
    priceable = priced desk.open_batch its.equipped.batch_is;
    roads_are = ap (λ (k : Known). (root_of k).start.roads) its.pass.0.1 ∙ sym its.equipped.pricer_is;
  }
    where
      k : Known
      k = knowledge desk.pass

      number : n + 2 - 2 ≡ n
      number = omega arith

      lives-so : desk.lives ≡ true → has_ended (state_of old) (DeskNumbered n) ≡ false
      lives-so lives = untrue (has_ended (state_of old) (DeskNumbered n)) (sym its.equipped.lives_is ∙ lives)

      by_batch : desk.lives ≡ true → (o : Option BatchCopy) → o ≡ open_batch_of (state_of old) n
          → MatchOption o (MayOpen stage.board desk.pass) (MayCommit stage.board desk.pass)
      by_batch lives None none = record {
        may_use = its.pass.0.0;
        point = its.pass.1;
        desk = standing-desk old (n + 2) k its.pass.0.1 (omega arith) (omega (arith, fits.0), omega (arith, there))
            (subst (λ m. IsFalse (has_ended (state_of old) (DeskNumbered m))) (sym number) (lives-so lives));
        none_open = ap (λ (j : Known). is_some (open_batch_of (seen_state j) (desk_of j))) its.pass.0.1
            ∙ ap (λ m. is_some (open_batch_of (state_of old) m)) number ∙ ap is_some (sym none);
      }
      by_batch lives (Some batch) is =
          let open_one = of-desk (state_of old) n batch (sym is) in
          record {
            may_use = its.pass.0.0;
            point = its.pass.1;
            desk = standing-desk old (n + 2) k its.pass.0.1 (omega arith) (omega (arith, fits.0), omega (arith, there))
                (subst (λ m. IsFalse (has_ended (state_of old) (DeskNumbered m))) (sym number) (lives-so lives));
            open_now = standing-open old (n + 2) k its.pass.0.1 batch (open_one.desk_is ∙ sym number)
                (subst (λ m. open_batch_numbered (state_of old) m batch.number ≡ Some batch) (sym open_one.desk_is) open_one.numbered);
          }

      priced : (o : Option BatchCopy) → o ≡ open_batch_of (state_of old) n → IfSome o (IsPriceable desk.pricer)
      priced None none = tt
      priced (Some batch) is =
          subst (λ roads. IsPriceable roads batch) (sym its.equipped.pricer_is)
          (open-priceable old n batch.number batch told-of.start_fits told-of.legal (of-desk (state_of old) n batch (sym is)).numbered)

  -- all of them may run, where the log is of the board's version
  pub may-run : MayRunActors stage.board log stage.actors
  may-run = record {
    feeds = record {
      riders = may-feed 1 stage.actors.feeds.riders one (told-of.text.feeds_number.0) ready.feed_1;
      drivers = drivers stage.actors.feeds.drivers ready.feed_2;
    };
    desks = record {
      first = may-desk 1 stage.actors.desks.first one (told-of.text.desks_number.0) ready.desk_1;
      second = second stage.actors.desks.second ready.desk_2;
    };
    scribe = record { may_use = ready.scribe.0; point = ready.scribe_point; log_is = refl };
  }
    where
      one : IsOneOrTwo 1
      one = (omega arith, omega arith)

      two : IsOneOrTwo 2
      two = (omega arith, omega arith)

      drivers : (o : Option Feeder) → MatchOption o (old.feeds ≢ 2) (λ (feeder : Feeder). (old.feeds ≡ 2) × IsFeederOf stage.board old 2 feeder)
          → IfSome o (MayRunFeeder stage.board)
      drivers None none = tt
      drivers (Some feeder) (are_two, its) = may-feed 2 feeder two (omega (arith, are_two)) its

      second : (o : Option Desk) → MatchOption o (old.desks ≢ 2) (λ (desk : Desk). (old.desks ≡ 2) × IsDeskOf stage.board old 2 desk)
          → IfSome o (MayRunDesk stage.board)
      second None none = tt
      second (Some desk) (are_two, its) = may-desk 2 desk two (omega (arith, are_two)) its
