-- The texts of a run, read one after another.
use Rattle.dispatcher.proofs.Common.{◌≡◌, ℕ, List, [], ◌∷◌, ◌++◌, Option, Ok, Err, IfSome, refl, sym, ap, subst, ◌∙◌, arith, length-append, drop, drop_at, All, length, map, length-map, map-append, All-append, all_of_none, all_of_one, Format, Contents, GivenBack, Rose, File, name_of, Meaning, Means, StopsAt, StopsBy, StopsReading, AreRead, AsksOnce, AreBack, AreGivenBack, IsFresh, IsSpent, Shelved, told_bytes, Stop, NoMemory, Adds}
use Rattle.line_text.specs.Texts.{text_value}

-- sources of the first names, and then of others
AreGivenBack-append : (told : Option Contents) (names more : List (List ℕ)) (back sources : List GivenBack) → AreGivenBack told names back
    → length back ≡ length names → AreGivenBack told more sources → AreGivenBack told (names ++ more) (back ++ sources)
AreGivenBack-append told [] more [] sources are same others = others
AreGivenBack-append told [] more (s ∷ back) sources are same others = absurd are
AreGivenBack-append told (n ∷ names) more [] sources are same others = absurd (omega (arith, same))
AreGivenBack-append told (n ∷ names) more (s ∷ back) sources (first, rest) same others =
    (first, AreGivenBack-append told names more back sources rest (omega (arith, same)) others)

-- at the start of a run
pub none-read : (m : Meaning) (old : Shelved) → IsFresh old → AreRead [] m old old
none-read m old fresh = record {
  told = refl;
  faults = refl;
  asked = fresh.none_asked;
  brought = fresh.none_brought;
  back = record {
    all_back = ap length fresh.none_back ∙ sym fresh.none_brought;
    in_order = subst (λ (l : List GivenBack). AreGivenBack old.told old.asked l) (sym fresh.none_back) tt;
  };
  spent = subst (λ (l : List GivenBack). All IsSpent l) (sym fresh.none_back) (all_of_none IsSpent);
  means = all_of_none (Means old.told m);
}

-- the first files of a run were read, and more names were asked for
module _ (files : List File) (m : Meaning) (old mid new : Shelved) (read : AreRead files m old mid) where
  pub many-back : length mid.back ≡ length mid.asked
  many-back = read.back.all_back ∙ read.brought ∙ sym (ap length read.asked ∙ length-map files name_of)

  pub back-more : (names : List (List ℕ)) (sources : List GivenBack) → Adds names (length sources) sources mid new
      → AreGivenBack mid.told names sources → AreBack old.told new
  back-more names sources adds left = record {
    all_back = omega (arith, ap length adds.kept ∙ length-append mid.back sources, adds.counted, read.back.all_back);
    in_order = rw (adds.asked, adds.kept) (AreGivenBack-append old.told mid.asked names mid.back sources read.back.in_order many-back
        (subst (λ (t : Option Contents). AreGivenBack t names sources) read.told left));
  }

  pub asked-more : (more : List File) (brought : ℕ) (sources : List GivenBack) → Adds (map name_of more) brought sources mid new
      → new.asked ≡ map name_of (files ++ more)
  asked-more more brought sources adds = adds.asked ∙ ap (λ l. l ++ map name_of more) read.asked ∙ sym (map-append name_of files more)

  -- and read to their ends
  pub read-more : (more : List File) (sources : List GivenBack) → Adds (map name_of more) (length sources) sources mid new
      → AreGivenBack mid.told (map name_of more) sources → length sources ≡ length more → All IsSpent sources → new.faults ≡ mid.faults
      → All (Means old.told m) more → AreRead (files ++ more) m old new
  read-more more sources adds left many spent sound means = record {
    told = adds.told ∙ read.told;
    faults = sound ∙ read.faults;
    asked = asked-more more (length sources) sources adds;
    brought = omega (arith, adds.counted, read.brought, many, length-append files more);
    back = back-more (map name_of more) sources adds left;
    spent = subst (λ (l : List GivenBack). All IsSpent l) (sym adds.kept) (All-append IsSpent mid.back sources read.spent spent);
    means = All-append (Means old.told m) files more read.means means;
  }

  -- the text of one file more was read, or stopped the run
  module _ (file : File) {S V E : Type 0} (format : Format S V E) (refused : E → Stop) where
    abbrev told_file : Option (List ℕ)
    told_file = told_bytes old.told (name_of file)

    pub one-more : (value : V) → AsksOnce format refused (name_of file) mid new (Ok value)
        → (IfSome told_file (λ bytes. text_value format bytes ≡ Ok value) → Means old.told m file) → AreRead (files ++ file ∷ []) m old new
    one-more value asks means =
        let (many, spent, sound) = asks.whole value refl in
        read-more (file ∷ []) asks.sources asks.adds asks.left many spent sound (all_of_one (Means old.told m) file (means
        (subst (λ (t : Option Contents). IfSome (told_bytes t (name_of file)) (λ bytes. text_value format bytes ≡ Ok value)) read.told asks.answer)))

    pub one-stops : (later : List File) (stop : Stop) → AsksOnce format refused (name_of file) mid new (Err stop)
        → ((sources : List GivenBack) → StopsBy format refused told_file sources stop → StopsAt old.told m file sources stop)
        → StopsReading (files ++ file ∷ later) stop old new
    one-stops later stop asks stops =
        let own : drop (length files) new.back ≡ asks.sources =
        ap (drop (length files)) asks.adds.kept ∙ drop_at mid.back asks.sources (length files) (read.back.all_back ∙ read.brought) in
        record {
          earlier = files;
          file = file;
          later = later;
          files_are = refl;
          asked_are = asked-more (file ∷ []) (length asks.sources) asks.sources asks.adds;
          meaning = m;
          means = read.means;
          why = stops (drop (length files) new.back) (subst (λ (l : List GivenBack). StopsBy format refused told_file l stop) (sym own)
              (subst (λ (t : Option Contents). StopsBy format refused (told_bytes t (name_of file)) asks.sources stop) read.told asks.answer));
          back = back-more (name_of file ∷ []) asks.sources asks.adds asks.left;
          rose = λ is. subst (λ (k : ℕ). Rose k new.faults) read.faults (asks.rose (ap (λ (s : Stop). Err s) is));
        }

-- memory was wanting after the last of some texts
pub then-stops : (files : List File) (last : File) (m : Meaning) (old new : Shelved) → AreRead (files ++ last ∷ []) m old new
    → All (Means old.told m) files → ((sources : List GivenBack) → StopsAt old.told m last sources NoMemory)
    → (more : List File) → StopsReading (files ++ last ∷ more) NoMemory old new
then-stops files last m old new read means why more = record {
  earlier = files;
  file = last;
  later = more;
  files_are = refl;
  asked_are = read.asked;
  meaning = m;
  means = means;
  why = why (drop (length files) new.back);
  back = read.back;
  rose = λ is. absurd (cc is);
}
