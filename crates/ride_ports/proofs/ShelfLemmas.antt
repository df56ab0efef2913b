-- Looking up a file by its name.
use Rattle.ride_ports.proofs.Common.{◌≡◌, ℕ, Bool, true, false, List, [], ◌∷◌, Option, None, Some, refl, ap, sym, ◌∙◌, map, find, cond, bytes_eq, option_map, option_or, bytes_at, StoredFile, FileState, SourceState, contents_of, file_named, source_of}
use Rattle.ride_ports.specs.inner.Contents.{IsContentOf}

-- the first element that passes, after a map
pub find-map : {A B : Type 0} (f : A → B) (p : B → Bool) (xs : List A) →
    find p (map f xs) ≡ option_map f (find (λ x. p (f x)) xs)
find-map f p [] = refl
find-map f p (x ∷ xs) =
    elim (p (f x)) as (λ b. ◌≡◌ (cond b (Some (f x)) (find p (map f xs))) (option_map f (cond b (Some x) (find (λ x. p (f x)) xs)))) [
      | true ↦ refl
      | false ↦ find-map f p xs
    ]

-- the bytes of a file that was found, where no further name has bytes
bytes-found : (found : Option FileState) →
    option_or (option_map (λ (f : StoredFile). f.bytes) (option_map (λ (f : FileState). record { name = f.name; bytes = f.bytes }) found)) None
    ≡ option_map (λ (f : FileState). f.bytes) found
bytes-found None = refl
bytes-found (Some f) = refl

-- the bytes of a name are those of the first file with this name
pub bytes_at-contents_of : (files : List FileState) (name : List ℕ) →
    bytes_at (contents_of files) name ≡ option_map (λ (f : FileState). f.bytes) (file_named files name)
bytes_at-contents_of files name =
    rw (find-map (λ (f : FileState). record { name = f.name; bytes = f.bytes }) (λ (f : StoredFile). bytes_eq f.name name) files)
    (bytes-found (file_named files name))

left-source_of : (found : Option FileState) →
    option_map (λ (s : SourceState). s.left) (option_map source_of found) ≡ option_map (λ (f : FileState). f.bytes) found
left-source_of None = refl
left-source_of (Some f) = refl

pub bytes_at-of_source : (files : List FileState) (name : List ℕ) (source : SourceState) →
    Some source ≡ option_map source_of (file_named files name) → IsContentOf (Some (contents_of files)) name (Some source.left)
bytes_at-of_source files name source named =
    (refl, ap (option_map (λ (s : SourceState). s.left)) named ∙ left-source_of (file_named files name) ∙ sym (bytes_at-contents_of files name))
