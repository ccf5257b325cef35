-- The blocks of all inputs, one after another.
use Rattle.std.proofs.Common.{◌≡◌, ◌+◌, ◌-◌, ◌<◌, ◌≤◌, ◌++◌, ℕ, Bool, true, false, List, [], ◌∷◌, Option, Some, None, ap}
use Rattle.std.proofs.Common.{append-nil, append_assoc, arith, drop, flat_map, get_or, length, map, refl}
use Rattle.std.proofs.Common.{subst, sym, take, ◌∙◌}
use Rattle.std.specs.Prelude.{Result, Ok, Err, OnOk, is_err, nat_lt, option_map, ◌==◌}
use Rattle.std.proofs.lemmas.Bool.Decides.{nat_tests}
use Rattle.std.proofs.lemmas.List.{drop_all, drop_more, length-map, take_all}
use Rattle.std.proofs.lemmas.List.Folds.{length-flat_map-take}
use Rattle.tlv_text.specs.Taken.{TakenValue, taken_value}
use Rattle.tlv_text.specs.declared.taken.Taken.{Taken}
use Rattle.tlv_program.specs.System.{Allows}
use Rattle.tlv_view_program.specs.declared.request.InputForm.{InputForm}
use Rattle.tlv_view_program.specs.InputBlocks.{BlockContents, GetsAllBlocks, GetsBlocks, InputBlockValue, block_of_file}
use Rattle.tlv_text.specs.declared.text_fault.TextFault.{TextFault}
use Rattle.tlv_text.specs.declared.text_fault.TextFault.TheVariants.{TooLong}
use Rattle.tlv_view_program.specs.InputBlocks.{blocks_taken, decoded_count, next, no_more, refused_here}
use Rattle.tlv_view_program.specs.InputBlocks.{refused_later, room_after, run_limit, within_room}
use Rattle.tlv_view_program.specs.Private.BlockParts.{file_blocks}
use Rattle.tlv_view_program.specs.ShowsAll.{file_of_word, files_of_words}
use Rattle.tlv_view_program.specs.Streams.{StreamsValue}
use Rattle.tlv_view_program.specs.declared.input_blocks.FileBlocks.{FileBlocks}

-- ---- the blocks of a file

-- the block of what an input was taken for
abbrev pub taken_block : Option (List ℕ) → Bool → Taken → InputBlockValue
taken_block file several t = block_of_file file several (BlockContents.taken (taken_value t))

each-block : (file : Option (List ℕ)) (several : Bool) (ts : List Taken)
    → map (taken_block file several) ts
    ≡ map (λ (t : TakenValue). block_of_file file several (BlockContents.taken t)) (map taken_value ts)
each-block file several [] = refl
each-block file several (t ∷ ts) =
    ap (λ (l : List InputBlockValue). taken_block file several t ∷ l) (each-block file several ts)

pub blocks-taken : (file : Option (List ℕ)) (several : Bool) (ts : List Taken) → several ≡ nat_lt 1 (length ts)
    → map (taken_block file several) ts ≡ blocks_taken file (Ok (map taken_value ts))
blocks-taken file several ts e =
    each-block file several ts
    ∙ ap
    (λ (b : Bool). map (λ (t : TakenValue). block_of_file file b (BlockContents.taken t)) (map taken_value ts))
    (e ∙ ap (nat_lt 1) (sym (length-map ts taken_value)))

-- ---- the blocks of all files

-- how many blocks there are in the files up to a place
pub counted-within : (files : List FileBlocks) (i : ℕ) (f : FileBlocks) → i < length files → f ≡ get_or files i f
    → length (flat_map file_blocks (take i files)) + length (file_blocks f) ≤ length (flat_map file_blocks files)
counted-within files i f some is =
    subst (λ (x : FileBlocks). length (flat_map file_blocks (take i files)) + length (file_blocks x)
    ≤ length (flat_map file_blocks files)) (sym is) (length-flat_map-take file_blocks files i f some)

pub counted-all : (files : List FileBlocks) (i : ℕ) → length files ≤ i
    → length (flat_map file_blocks (take i files)) ≡ length (flat_map file_blocks files)
counted-all files i none = ap (λ (l : List FileBlocks). length (flat_map file_blocks l)) (take_all i files none)

-- these blocks and then more, if they were had
abbrev pub blocks_after : List InputBlockValue → Option (List InputBlockValue) → Option (List InputBlockValue)
blocks_after blocks more = option_map (λ (l : List InputBlockValue). blocks ++ l) more

after-none : (more : Option (List InputBlockValue)) → more ≡ blocks_after [] more
after-none None = refl
after-none (Some l) = refl

after-both : (xs ys : List InputBlockValue) (more : Option (List InputBlockValue))
    → blocks_after xs (blocks_after ys more) ≡ blocks_after (xs ++ ys) more
after-both xs ys None = refl
after-both xs ys (Some l) = ap (λ (x : List InputBlockValue). Some x) (sym (append_assoc xs ys l))

-- words of which there are some name their files
pub some-words : (words : List (List ℕ)) (b : Bool) → b ≡ (length words == 0) → b ≡ false
    → map file_of_word words ≡ files_of_words words
some-words [] b e f = let u : true ≡ false = sym e ∙ f in absurd (cc (u))
some-words (x ∷ words) b e f = refl

pub no-words : (words : List (List ℕ)) (b : Bool) → b ≡ (length words == 0) → b ≡ true → words ≡ []
no-words [] b e f = refl
no-words (x ∷ words) b e f =
    let some : (length (x ∷ words) == 0) ≡ false = grind (arith, nat_tests) in
    let u : false ≡ true = sym some ∙ (sym e ∙ f) in
    absurd (cc (u))

-- what holds if there is no error
pub without-error : {T E : Type 0} (r : Result T E) (b : Bool) (P : Type 0) → b ≡ is_err r → b ≡ false → OnOk r P → P
without-error (Ok x) b P e f p = p
without-error (Err x) b P e f p = let u : true ≡ false = sym e ∙ f in absurd (cc (u))

-- what an input is taken for stays, or is refused
within-fits : (room : ℕ) (ts : List TakenValue) → decoded_count ts ≤ room → within_room room (Ok ts) ≡ Ok ts
within-fits room ts fits =
    let no : nat_lt room (decoded_count ts) ≡ false = grind (arith, nat_tests) in
    rw no refl

within-beyond : (room : ℕ) (ts : List TakenValue) → room < decoded_count ts → within_room room (Ok ts) ≡ Err TooLong
within-beyond room ts beyond =
    let yes : nat_lt room (decoded_count ts) ≡ true = grind (arith, nat_tests) in
    rw yes refl

module _ {S : Type 0} (allows : Allows S) (form : InputForm) where
  module _ (file : Option (List ℕ)) (old new : StreamsValue S) (room : ℕ) (ts : List TakenValue) where
    -- there is room for the octets of the texts, or not
    pub gets-within : (rest : ℕ) → rest + decoded_count ts ≡ room
        → GetsBlocks allows form file room old new (blocks_taken file (within_room room (Ok ts)))
        (room_after room (within_room room (Ok ts)))
        → GetsBlocks allows form file room old new (blocks_taken file (Ok ts)) rest
    gets-within rest is x =
        let left : room - decoded_count ts ≡ rest = omega (arith, is) in
        subst (λ (n : ℕ). GetsBlocks allows form file room old new (blocks_taken file (Ok ts)) n) left
        (subst
        (λ (r : Result (List TakenValue) TextFault).
        GetsBlocks allows form file room old new (blocks_taken file r) (room_after room r))
        (within-fits room ts (omega (arith, is))) x)

    pub gets-beyond : room < decoded_count ts
        → GetsBlocks allows form file room old new (blocks_taken file (within_room room (Ok ts)))
        (room_after room (within_room room (Ok ts)))
        → GetsBlocks allows form file room old new (blocks_taken file (Err TooLong)) room
    gets-beyond beyond x =
        subst
        (λ (r : Result (List TakenValue) TextFault).
        GetsBlocks allows form file room old new (blocks_taken file r) (room_after room r))
        (within-beyond room ts beyond) x

  -- the blocks of a file, and then those of others, if there is memory
  next-file : (file : Option (List ℕ)) (files : List (Option (List ℕ))) (room rest : ℕ)
      (old between new : StreamsValue S) (added : List InputBlockValue) (more : Option (List InputBlockValue))
      → GetsBlocks allows form file room old between added rest → GetsAllBlocks allows form rest files between new more
      → GetsAllBlocks allows form room (file ∷ files) old new (blocks_after added more)
  next-file file files room rest old between new added None x others = refused_later between x others
  next-file file files room rest old between new added (Some l) x others = next between x others

  module _ (files : List (Option (List ℕ))) (words : List (List ℕ)) (first : StreamsValue S) where
    -- what comes of the files that are left comes of all of them, after the blocks so far
    abbrev pub GetsRest : ℕ → ℕ → StreamsValue S → List InputBlockValue → Type 0
    GetsRest i room now blocks = (new : StreamsValue S) (more : Option (List InputBlockValue))
        → GetsAllBlocks allows form room (map file_of_word (drop i words)) now new more
        → GetsAllBlocks allows form run_limit files first new (blocks_after blocks more)

    pub rest-begins : (room : ℕ) (blocks : List InputBlockValue) → room ≡ run_limit → map file_of_word words ≡ files
        → blocks ≡ [] → GetsRest 0 room first blocks
    rest-begins room blocks whole same none new more x =
        subst (λ (l : List (Option (List ℕ))). GetsAllBlocks allows form run_limit l first new (blocks_after blocks more))
        same
        (subst
        (λ (r : Option (List InputBlockValue)).
        GetsAllBlocks allows form run_limit (map file_of_word words) first new r)
        (after-none more ∙ ap (λ (l : List InputBlockValue). blocks_after l more) (sym none)) (rw (← whole) x))

    pub rest-refused : (i : ℕ) (d : List ℕ) (room rest : ℕ) (now new : StreamsValue S)
        (blocks added : List InputBlockValue) → i < length words → GetsRest i room now blocks
        → GetsBlocks allows form (file_of_word (get_or words i d)) room now new added rest
        → GetsAllBlocks allows form run_limit files first new None
    rest-refused i d room rest now new blocks added some so x =
        so new None
        (subst (λ (l : List (List ℕ)). GetsAllBlocks allows form room (map file_of_word l) now new None)
        (sym (drop_more words i d some)) (refused_here x))

    pub rest-goes_on : (i : ℕ) (d : List ℕ) (room rest : ℕ) (now between : StreamsValue S)
        (blocks added all : List InputBlockValue) → i < length words → GetsRest i room now blocks
        → GetsBlocks allows form (file_of_word (get_or words i d)) room now between added rest → all ≡ blocks ++ added
        → GetsRest (i + 1) rest between all
    rest-goes_on i d room rest now between blocks added all some so x same new more others =
        subst (λ (r : Option (List InputBlockValue)). GetsAllBlocks allows form run_limit files first new r)
        (after-both blocks added more ∙ ap (λ (l : List InputBlockValue). blocks_after l more) (sym same))
        (so new (blocks_after added more)
        (subst
        (λ (l : List (List ℕ)). GetsAllBlocks allows form room (map file_of_word l) now new (blocks_after added more))
        (sym (drop_more words i d some)) (next-file _ _ room rest now between new added more x others)))

    pub rest-ends : (i room : ℕ) (now : StreamsValue S) (blocks : List InputBlockValue) → length words ≤ i
        → GetsRest i room now blocks → GetsAllBlocks allows form run_limit files first now (Some blocks)
    rest-ends i room now blocks none so =
        subst (λ (l : List InputBlockValue). GetsAllBlocks allows form run_limit files first now (Some l))
        (append-nil blocks)
        (so now (Some [])
        (subst (λ (l : List (List ℕ)). GetsAllBlocks allows form room (map file_of_word l) now now (Some []))
        (sym (drop_all i words none)) no_more))

  -- memory for the list might have been refused after its last file
  without-memory : {file : Option (List ℕ)} {files : List (Option (List ℕ))} {old new : StreamsValue S} {room : ℕ}
      {had : Option (List InputBlockValue)} → GetsAllBlocks allows form room (file ∷ files) old new had
      → GetsAllBlocks allows form room (file ∷ files) old new None
  without-memory {files = []} (next between x no_more) = refused_here x
  without-memory {files = f ∷ files} (next between x others) = refused_later between x (without-memory others)
  without-memory (refused_later between x others) = refused_later between x others
  without-memory (refused_here x) = refused_here x

  pub refused-at-end : (words : List (List ℕ)) {old new : StreamsValue S} {room : ℕ}
      {had : Option (List InputBlockValue)} → GetsAllBlocks allows form room (files_of_words words) old new had
      → GetsAllBlocks allows form room (files_of_words words) old new None
  refused-at-end [] x = without-memory x
  refused-at-end (word ∷ words) x = without-memory x

  -- standard input alone
  pub refused-alone : (words : List (List ℕ)) (room rest : ℕ) (first new : StreamsValue S)
      (added : List InputBlockValue) → room ≡ run_limit → words ≡ []
      → GetsBlocks allows form None room first new added rest
      → GetsAllBlocks allows form run_limit (files_of_words words) first new None
  refused-alone words room rest first new added whole none x = rw (none, ← whole) (refused_here x)

  pub rest-alone : (words : List (List ℕ)) (room rest : ℕ) (first between : StreamsValue S)
      (blocks added : List InputBlockValue) → room ≡ run_limit → words ≡ [] → blocks ≡ added
      → GetsBlocks allows form None room first between added rest
      → GetsRest (files_of_words words) words first 0 rest between blocks
  rest-alone words room rest first between blocks added whole none same x = rw (none, same)
      (λ new more others. rw (← whole) (next-file None [] room rest first between new added more x others))
