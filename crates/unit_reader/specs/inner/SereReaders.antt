-- What is read of repetitions and sequences.
use Rattle.std.specs.Prelude.{ℕ, zero, suc, ◌+◌, Bool, true, ◌||◌, nat_eq, List, length, Option, Some, None}
use Rattle.psl_grammar.specs.declared.sequences.RawRep.{RawRep}
use Rattle.psl_grammar.specs.declared.symbols.Symbol.{Symbol}
use Rattle.psl_grammar.specs.declared.symbols.Symbol.TheVariants as symbol
use Rattle.psl_grammar.specs.Symbols.{symbol_at, begins_sequence, is_high, is_pick, sere_level}
use Rattle.psl_grammar.specs.RawExpr.{RawExpr}
use Rattle.psl_grammar.specs.RawSere.{RawSere, bool, named, lone, repeat, join}
use Rattle.unit_reader.specs.inner.Steps.{◌>>=◌, need, either_way, is, is_at, Read, loop}
use Rattle.unit_reader.specs.inner.ExprReaders.{bool_in}

abbrev pub rep : (mark : ℕ) → (low high : Option ℕ) → RawRep
rep mark low high = record { mark = mark; low = low; high = high }

-- `[*` and `[+]`
abbrev pub is_times : Symbol → Bool
is_times s = is s symbol.RepeatOpen || is s symbol.RepeatPlus

abbrev pub repeated : RawSere → RawRep → RawSere
repeated s r = repeat s r.mark r.low r.high

module _ (symbols : List Symbol) where
  unfoldable pub range_end_at : ℕ → Read (Option ℕ)
  range_end_at i =
      need (is_at symbols (i + 1) symbol.Colon) (need (is_high (symbol_at symbols (i + 2)))
      (need (is_at symbols (i + 3) symbol.CloseBracket) (Some (Some (i + 2), i + 4))))

  unfoldable pub counts_at : ℕ → Read (Option ℕ)
  counts_at i =
      need (is_at symbols i symbol.Number)
      (either_way (is_at symbols (i + 1) symbol.CloseBracket) (Some (None, i + 2)) (range_end_at i))

  unfoldable pub counted_at : ℕ → Read RawRep
  counted_at i = counts_at (i + 1) >>= λ c. Some (rep i (Some (i + 1)) c.0, c.1)

  unfoldable pub times_at : ℕ → Read RawRep
  times_at i =
      either_way (is_at symbols i symbol.RepeatPlus) (Some (rep i None None, i + 1))
      (need (is_at symbols i symbol.RepeatOpen)
      (either_way (is_at symbols (i + 1) symbol.CloseBracket) (Some (rep i None None, i + 2)) (counted_at i)))

  unfoldable pub pick_at : ℕ → Read RawRep
  pick_at i =
      either_way (is_at symbols (i + 1) symbol.CloseBracket)
      (need (is_at symbols i symbol.GotoOpen) (Some (rep i None None, i + 2))) (counted_at i)

  abbrev pub times_go : ℕ → Bool
  times_go m = is_times (symbol_at symbols m)

  unfoldable pub again_with : RawSere × ℕ → Read RawSere
  again_with s = times_at s.1 >>= λ r. Some (repeated s.0 r.0, r.1)

  -- the repetitions of anything behind what they repeat
  unfoldable pub times_from : RawSere × ℕ → Read RawSere
  times_from s = loop times_go again_with (suc (length symbols)) s

  -- the repetitions behind a bool
  unfoldable pub after_bool : RawExpr × ℕ → Read RawSere
  after_bool e =
      either_way (is_pick (symbol_at symbols e.1))
      (pick_at e.1 >>= λ r. times_from (repeated (bool e.0) r.0, r.1)) (times_from (bool e.0, e.1))

  unfoldable pub timed_in : (room : ℕ) (braced : Bool) → ℕ → Read RawSere
  timed_in room braced i = bool_in symbols room braced i >>= after_bool

  -- a sequence in braces, by what reads inside
  unfoldable pub braces_with : (cat : ℕ → Read RawSere) → ℕ → Read RawSere
  braces_with cat i = cat (i + 1) >>= λ s. need (is_at symbols s.1 symbol.CloseBrace) (Some (s.0, s.1 + 1))

  unfoldable pub lone_at : ℕ → Read RawSere
  lone_at i = times_at i >>= λ r. Some (lone r.0.mark r.0.low r.0.high, r.1)

  unfoldable pub base_with : (cat : ℕ → Read RawSere) → ℕ → Read RawSere
  base_with cat i =
      either_way (is_at symbols i symbol.OpenBrace) (braces_with cat i)
      (either_way (is_at symbols i symbol.SequenceName) (Some (named i, i + 1)) (lone_at i))

  unfoldable pub tight_with : (cat : ℕ → Read RawSere) → ℕ → Read RawSere
  tight_with cat i = base_with cat i >>= times_from

  unfoldable pub elem_with : (cat : ℕ → Read RawSere) (room : ℕ) → ℕ → Read RawSere
  elem_with cat room i =
      either_way (begins_sequence (symbol_at symbols i)) (tight_with cat i) (timed_in room true i)

  abbrev pub sere_joins : (level : ℕ) → ℕ → Bool
  sere_joins level m = nat_eq (sere_level (symbol_at symbols m)) level

  unfoldable pub sere_join_with : (right : ℕ → Read RawSere) → RawSere × ℕ → Read RawSere
  sere_join_with right l = right (l.1 + 1) >>= λ r. Some (join l.1 l.0 r.0, r.1)

  -- so many levels above that of an elem, which is 1
  unfoldable pub levels_above : (elem : ℕ → Read RawSere) → ℕ → ℕ → Read RawSere
  levels_above elem zero i = elem i
  levels_above elem (suc k) i =
      levels_above elem k i
      >>= loop (sere_joins (suc (suc k))) (sere_join_with (levels_above elem k)) (suc (length symbols))

  -- what is read in so many open phrases less one: nothing is left at 0
  unfoldable pub cat_at : (opens : ℕ) → ℕ → Read RawSere
  cat_at zero i = None
  cat_at (suc n) i = levels_above (elem_with (cat_at n) n) 5 i

  -- the same with so much room
  abbrev pub elem_in : (room : ℕ) → ℕ → Read RawSere
  elem_in room = elem_with (cat_at room) room

  abbrev pub tight_in : (room : ℕ) → ℕ → Read RawSere
  tight_in room = tight_with (cat_at room)
