-- Bytes that names of a table make, put one after the other; and the names of an extract line, byte by byte and name by name. Assumes nothing.
use mathlib.Core.Path.{◌≡◌, refl, sym, ap, ◌∙◌}
use mathlib.Core.Bool.{Bool, true, false, ◌&&◌}
use mathlib.Core.List.{List, [], ◌∷◌, ◌++◌, append-nil}
use Prim.Native.Nat.{ℕ, ◌+◌, ◌*◌, ◌≤◌, ◌<◌}
use native.Mathlib.Decide.{dec_lt}
use native.Mathlib.Numerals.{add-one}
use native.Mathlib.Omega.{arith}
use lib.Dec.{ltb, leb}
use lib.ListN.{length, get_or, take, get_or-eq_default}
use lib.Seq.{take-suc, take_all}
use borrow.Author.Tests.{ltb-true, leb-true}
use Rattle.rules.specs.Lists.{every, keep, up_from}
use Rattle.rules.specs.Sets.{has, members, most_columns}
use Rattle.rules.specs.Names.{most_name_bytes}
use Rattle.rules.specs.Pages.{joined_names, names_at}
use Rattle.rules.proofs.Lists.{and_parts, every_in, get_d_in}
use Rattle.rules.proofs.ListTests.{keep_append}
use Rattle.rules.proofs.Counting.{up_from_last}
use Rattle.rules.proofs.Pages.{joined_names_one, joined_names_more}
use Rattle.writing.specs.Added.{Adds}
use Rattle.writing.specs.Puts.{Puts}
use Rattle.writing.specs.declared.Page.{Page}
use Rattle.writing.proofs.Adding.{adds_nothing, adds_both}
use Rattle.text.proofs.NamesBack.{table_byte}
use Rattle.report.specs.Naming.{Named, parted, PutsNamed}

-- ---- bytes that the names make

module _ {table : List ℕ} where
  pub named_nothing : {page : Page} → PutsNamed table (λ names. []) page page
  named_nothing {page} = record { same_reference = refl; adds = λ names is. adds_nothing page.end page.places.now }

  -- bytes for which no name is needed
  pub named_put : {more : List ℕ} {before after : Page} → Puts more before after → PutsNamed table (λ names. more) before after
  named_put p = record { same_reference = p.same_reference; adds = λ names is. p.adds }

  -- one thing is put and then another
  pub named_both : {first second : List (List ℕ) → List ℕ} {before between after : Page} → PutsNamed table first before between
      → PutsNamed table second between after → PutsNamed table (λ names. first names ++ second names) before after
  named_both a b = record { same_reference = b.same_reference ∙ a.same_reference; adds = λ names is. adds_both (a.adds names is) (b.adds names is) }

  -- the same bytes for all names that the table holds
  pub named_as : {one other : List (List ℕ) → List ℕ} {before after : Page} → PutsNamed table one before after
      → ((names : List (List ℕ)) → Named table names → other names ≡ one names) → PutsNamed table other before after
  named_as a e = record { same_reference = a.same_reference; adds = λ names is. rw (e names is) (a.adds names is) }

  -- those of the names that it holds
  pub named_puts : {more : List (List ℕ) → List ℕ} {before after : Page} → PutsNamed table more before after → (names : List (List ℕ))
      → Named table names → Puts (more names) before after
  named_puts a names is = record { same_reference = a.same_reference; adds = a.adds names is }

-- ---- a name

abbrev name_long : List ℕ → Bool
name_long name = ltb 0 (length name) && leb (length name) most_name_bytes

module _ {table : List ℕ} {names : List (List ℕ)} (is : Named table names) (c : ℕ) where
  name_short : length (get_or names c []) ≤ most_name_bytes
  name_short = go (dec_lt c (length names))
    where
      go : Dec (c < length names) → length (get_or names c []) ≤ most_name_bytes
      go (yes l) =
          let name = get_or names c [] in
          leb-true (length name) most_name_bytes
          (and_parts (ltb 0 (length name)) (leb (length name) most_name_bytes) (every_in name_long is.short (get_d_in names c [] l))).1
      go (no n) = rw (get_or-eq_default names [] {n = c} (omega (arith, n))) (omega arith)

  -- no byte of it is 0
  byte_some : (i : ℕ) → i < length (get_or names c []) → 0 < get_or (get_or names c []) i 0
  byte_some i h = go (dec_lt c (length names))
    where
      go : Dec (c < length names) → 0 < get_or (get_or names c []) i 0
      go (yes l) =
          ltb-true 0 (get_or (get_or names c []) i 0)
          (every_in (λ b. ltb 0 b) (every_in (every (λ b. ltb 0 b)) is.nonzero (get_d_in names c [] l)) (get_d_in (get_or names c []) i 0 h))
      go (no n) = absurd (omega (arith, h, ap length (get_or-eq_default names [] {n = c} (omega (arith, n)))))

  module _ {i sign : ℕ} (few : i < most_name_bytes) (here : sign ≡ get_or table (most_name_bytes * c + i) 0) where
    -- the table has its bytes, and 0 behind them
    name_byte : sign ≡ get_or (get_or names c []) i 0
    name_byte = here ∙ ap (λ (l : List ℕ). get_or l (most_name_bytes * c + i) 0) is.held ∙ table_byte names c i is.few few

    within_name : (sign ≡ 0 → ⊥) → i < length (get_or names c [])
    within_name n = go (dec_lt i (length (get_or names c [])))
      where
        go : Dec (i < length (get_or names c [])) → i < length (get_or names c [])
        go (yes l) = l
        go (no m) = absurd (n (name_byte ∙ get_or-eq_default (get_or names c []) 0 (omega (arith, m))))

    behind_name : sign ≡ 0 → length (get_or names c []) ≤ i
    behind_name z = go (dec_lt i (length (get_or names c [])))
      where
        go : Dec (i < length (get_or names c [])) → length (get_or names c []) ≤ i
        go (yes l) = absurd (omega (arith, byte_some i l, name_byte, z))
        go (no m) = omega (arith, m)

    -- the bytes before it and then one that is not 0
    next_byte : (sign ≡ 0 → ⊥) → take (i + 1) (get_or names c []) ≡ take i (get_or names c []) ++ (sign ∷ [])
    next_byte n = rw (add-one, take-suc (get_or names c []) i 0 (within_name n), name_byte)

  -- behind 12 bytes it has ended
  whole_name : {i : ℕ} → most_name_bytes ≤ i → get_or names c [] ≡ take i (get_or names c [])
  whole_name {i} h = sym (take_all i (get_or names c []) (omega (arith, h, name_short)))

  -- so what is added of it is all of it
  pub name_full_lem : {i : ℕ} → most_name_bytes ≤ i → {at last : ℕ} {page new : List ℕ} → Adds (take i (get_or names c [])) at page last new
      → Adds (get_or names c []) at page last new
  name_full_lem {i} h a = rw (take_all i (get_or names c []) (omega (arith, h, name_short))) at a

-- the first i bytes of a column's name are put
abbrev pub Spelt : List ℕ → ℕ → ℕ → Page → Page → Type 0
Spelt table c i = PutsNamed table (λ names. take i (get_or names c []))

module _ {table : List ℕ} (c i : ℕ) {before between : Page} (a : Spelt table c i before between) where
  -- behind 12 bytes it is the whole name
  pub name_whole : most_name_bytes ≤ i → PutsNamed table (λ names. get_or names c []) before between
  name_whole h = named_as a λ names is. whole_name is c h

  module _ {sign : ℕ} (few : i < most_name_bytes) (here : sign ≡ get_or table (most_name_bytes * c + i) 0) where
    -- a byte that is not 0 belongs to it
    pub name_more : (sign ≡ 0 → ⊥) → {after : Page} → Puts (sign ∷ []) between after → Spelt table c (i + 1) before after
    name_more n b = named_as (named_both a (named_put b)) λ names is. next_byte is c few here n

    -- at a 0 it ends
    pub name_ends : sign ≡ 0 → PutsNamed table (λ names. get_or names c []) before between
    name_ends z = named_as a λ names is. sym (take_all i (get_or names c []) (behind_name is c few here z))

-- ---- the names of a set

-- there is none
abbrev none_of : {A : Type 0} → List A → Bool
none_of [] = true
none_of (x ∷ xs) = false

-- the columns of a set among the first k
abbrev pub seen : ℕ → ℕ → List ℕ
seen s k = keep (λ i. has i s) (up_from 0 k)

-- one name more, parted from those before
joined_names_next : (names : List (List ℕ)) (name : List ℕ) → joined_names (names ++ (name ∷ [])) ≡ joined_names names ++ (parted (none_of names) ++ name)
unfolding joined_names
joined_names_next [] name = joined_names_one name
joined_names_next (first ∷ names) name = joined_names_more first names name

names_at_next : (names : List (List ℕ)) (columns : List ℕ) (k : ℕ) → names_at names (columns ++ (k ∷ [])) ≡ names_at names columns ++ (get_or names k [] ∷ [])
unfolding names_at
names_at_next names [] k = refl
names_at_next names (c ∷ columns) k = ap (λ (l : List (List ℕ)). get_or names c [] ∷ l) (names_at_next names columns k)

names_at_none : (names : List (List ℕ)) (columns : List ℕ) → none_of (names_at names columns) ≡ none_of columns
unfolding names_at
names_at_none names [] = refl
names_at_none names (c ∷ columns) = refl

seen_next : (s k : ℕ) → seen s (k + 1) ≡ seen s k ++ keep (λ i. has i s) (k ∷ [])
seen_next s k =
    let last : 0 + k ≡ k = omega arith in
    rw (add-one, up_from_last 0 k, last) (keep_append (λ i. has i s) (up_from 0 k) (k ∷ []))

some_last : (columns : List ℕ) (k : ℕ) → false ≡ none_of (columns ++ (k ∷ []))
some_last [] k = refl
some_last (c ∷ columns) k = refl

-- after the columns below one: their names are put, and this parts the next from them
pub record Listed (table : List ℕ) (s : ℕ) (before : Page) (comma : List ℕ) (column : ℕ) (after : Page) : Type 0 where
  pub parts : comma ≡ parted (none_of (seen s column))
  pub puts : PutsNamed table (λ names. joined_names (names_at names (seen s column))) before after

module _ {table : List ℕ} {s : ℕ} {before : Page} where
  pub listed_none : Listed table s before [] 0 before
  unfolding up_from keep names_at joined_names
  listed_none = record { parts = refl; puts = named_nothing }

  module _ {comma : List ℕ} {column : ℕ} {between : Page} (l : Listed table s before comma column between) where
    -- a column of the set
    pub listed_next : {middle after : Page} → has column s ≡ true → Puts comma between middle
        → PutsNamed table (λ names. get_or names column []) middle after → Listed table s before (parted false) (column + 1) after
    unfolding keep
    listed_next there apart name =
        let seen_too : seen s (column + 1) ≡ seen s column ++ (column ∷ []) = seen_next s column ∙ rw there in
        record {
          parts = rw seen_too (ap parted (some_last (seen s column) column));
          puts = named_as (named_both l.puts (named_both (named_put apart) name)) λ names is.
              rw (
                seen_too,
                names_at_next names (seen s column) column,
                joined_names_next (names_at names (seen s column)) (get_or names column []),
                names_at_none names (seen s column),
                ← l.parts,
              );
        }

    -- another column
    pub listed_same : has column s ≡ false → Listed table s before comma (column + 1) between
    unfolding keep
    listed_same lacks =
        let seen_none : seen s (column + 1) ≡ seen s column = seen_next s column ∙ rw lacks (append-nil (seen s column)) in
        record { parts = rw seen_none l.parts; puts = named_as l.puts λ names is. rw seen_none }

  -- after all columns
  pub listed_all : {comma : List ℕ} {column : ℕ} {after : Page} → Listed table s before comma column after → column ≡ most_columns
      → PutsNamed table (λ names. joined_names (names_at names (members s))) before after
  unfolding members
  listed_all l all = rw all at l.puts
