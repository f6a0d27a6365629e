-- Where the reader stands within a phrase.
use Rattle.std.proofs.Common.{◌≡◌, ℕ, List, [], ◌∷◌, ◌++◌, Bool, true, false, cond, Option, Some, None, length}
use Rattle.std.proofs.Common.{Result, Ok, Err}
use Rattle.vcd_reader.specs.declared.reading.Place.{Place}
use Rattle.vcd_reader.specs.declared.reading.Place.TheVariants.{Declaring, Skipping, ScopeType, ScopeName}
use Rattle.vcd_reader.specs.declared.reading.Place.TheVariants.{DeclarationEnd, VarType, VarSize, VarCode, VarName}
use Rattle.vcd_reader.specs.declared.reading.Place.TheVariants.{VarRest, DefinitionsEnd, Changing, Remark, OtherCode}
use Rattle.vcd_reader.specs.declared.reading.Place.TheVariants.{VectorCode}
use Rattle.vcd_reader.specs.Codes.{find_code}
use Rattle.vcd_reader.specs.Context.{Context, path, joined, codes_with, number_with}
use Rattle.vcd_reader.specs.Phrases.{Judgement, whole, begins, breaks, is_end, has_end, skipped, scope, upscope}
use Rattle.vcd_reader.specs.Phrases.{variable, variable_size, agrees, definitions, vector, other, judge}
use Rattle.vcd_reader.specs.Telling.{judged}
use Rattle.vcd_reader.specs.inner.State.{State}
use Rattle.vcd_reader.specs.inner.Rules.{next}

-- the lengths of the paths round the open scopes
abbrev pub outer_of : List (List ℕ) → List ℕ
outer_of [] = []
outer_of (name ∷ names) = outer_of names ++ length (path names) ∷ []

abbrev pub base : Place → Context → (name digits : List ℕ) → State
base place c name digits = record {
  place = place;
  path = path c.scopes;
  outer = outer_of c.scopes;
  codes = c.codes;
  vars = c.vars;
  joined = name;
  time = c.time;
  digits = digits;
  changes = c.changes;
}

abbrev pub plain : Place → Context → State
plain place c = base place c [] []

pub data Stand : Type 0 where
  between : Stand
  skips : (word : List ℕ) (rest : List (List ℕ)) → Stand
  remarks : (word : List ℕ) (rest : List (List ℕ)) → Stand
  scope0 : (word : List ℕ) → Stand
  scope1 : (word kind : List ℕ) → Stand
  scope2 : (word kind name : List ℕ) → Stand
  up : (word name : List ℕ) (outer : List (List ℕ)) → Stand
  var0 : (word : List ℕ) → Stand
  var1 : (word kind : List ℕ) → Stand
  var2 : (word kind text : List ℕ) (size : ℕ) → Stand
  var3 : (word kind text : List ℕ) (size : ℕ) (id : List ℕ) → Stand
  var4 : (word kind text : List ℕ) (size : ℕ) (id name : List ℕ) (parts : List (List ℕ)) → Stand
  ends : (word : List ℕ) → Stand
  others : (word : List ℕ) → Stand
  vectors : (word digits : List ℕ) → Stand

-- the tokens since the last whole phrase
abbrev pub since : Stand → List (List ℕ)
since between = []
since (skips word rest) = word ∷ rest
since (remarks word rest) = word ∷ rest
since (scope0 word) = word ∷ []
since (scope1 word kind) = word ∷ kind ∷ []
since (scope2 word kind name) = word ∷ kind ∷ name ∷ []
since (up word name outer) = word ∷ []
since (var0 word) = word ∷ []
since (var1 word kind) = word ∷ kind ∷ []
since (var2 word kind text size) = word ∷ kind ∷ text ∷ []
since (var3 word kind text size id) = word ∷ kind ∷ text ∷ id ∷ []
since (var4 word kind text size id name parts) = word ∷ kind ∷ text ∷ id ∷ name ∷ parts
since (ends word) = word ∷ []
since (others word) = word ∷ []
since (vectors word digits) = word ∷ []

-- where a phrase may begin
abbrev pub open_place : Bool → Place
open_place true = Declaring
open_place false = Changing

abbrev pub code_in : Context → List ℕ → ℕ
code_in c id = number_with c.codes (find_code c.codes id)

abbrev pub with_code : Context → ℕ → List ℕ → Context
with_code c size id = record c { codes = codes_with c.codes id size (find_code c.codes id) }

-- the reader's state there
abbrev pub at : Context → Stand → State
at c between = plain (open_place c.declaring) c
at c (skips word rest) = plain Skipping c
at c (remarks word rest) = plain Remark c
at c (scope0 word) = plain ScopeType c
at c (scope1 word kind) = plain ScopeName c
at c (scope2 word kind name) = plain DeclarationEnd (record c { scopes = name ∷ c.scopes })
at c (up word name outer) = plain DeclarationEnd (record c { scopes = outer })
at c (var0 word) = plain VarType c
at c (var1 word kind) = plain VarSize c
at c (var2 word kind text size) = plain (VarCode size) c
at c (var3 word kind text size id) = plain (VarName size (code_in c id)) (with_code c size id)
at c (var4 word kind text size id name parts) =
    base (VarRest size (code_in c id)) (with_code c size id) (joined (name ∷ parts)) []
at c (ends word) = plain DefinitionsEnd c
at c (others word) = plain OtherCode c
at c (vectors word digits) = base VectorCode c [] digits

-- the word begins phrases of one kind
pub record Is (c : Context) (word : List ℕ) (kind : List (List ℕ) → Judgement) : Type 0 where
  pub is : (rest : List (List ℕ)) → judge c word rest ≡ kind rest

-- what is known there
abbrev pub Fits : Context → Stand → Type 0
Fits c between = Unit {0}
Fits c (skips word rest) = (c.declaring ≡ true) × Is c word (skipped c) × (has_end rest ≡ false)
Fits c (remarks word rest) = (c.declaring ≡ false) × Is c word (skipped c) × (has_end rest ≡ false)
Fits c (scope0 word) = (c.declaring ≡ true) × Is c word (scope c)
Fits c (scope1 word kind) = (c.declaring ≡ true) × Is c word (scope c)
Fits c (scope2 word kind name) = (c.declaring ≡ true) × Is c word (scope c)
Fits c (up word name outer) = (c.declaring ≡ true) × Is c word (upscope c) × (c.scopes ≡ name ∷ outer)
Fits c (var0 word) = (c.declaring ≡ true) × Is c word (variable c)
Fits c (var1 word kind) = (c.declaring ≡ true) × Is c word (variable c)
Fits c (var2 word kind text size) = (c.declaring ≡ true) × Is c word (variable c) × (variable_size text ≡ Some size)
Fits c (var3 word kind text size id) = (c.declaring ≡ true) × Is c word (variable c) × (variable_size text ≡ Some size)
Fits c (var4 word kind text size id name parts) = (c.declaring ≡ true) × Is c word (variable c)
    × (variable_size text ≡ Some size) × (has_end parts ≡ false)
Fits c (ends word) = (c.declaring ≡ true) × Is c word (definitions c)
Fits c (others word) = (c.declaring ≡ false) × Is c word (other c)
Fits c (vectors word digits) = (c.declaring ≡ false) × Is c word (vector c digits)

-- where the reader goes on
pub record Goes (c : Context) (p : Stand) (text : List ℕ) : Type 0 where
  pub to : Stand
  pub tokens : since to ≡ since p ++ text ∷ []
  pub fits : Fits c to
  pub goes : next (at c p) text ≡ Ok (at c to)

-- a step of the reader follows a judgement
abbrev pub Follows : Context → Stand → List ℕ → Judgement → Type 0
Follows c p text (whole after) = next (at c p) text ≡ Ok (at after between)
Follows c p text begins = Goes c p text
Follows c p text (breaks fault) = next (at c p) text ≡ Err fault
