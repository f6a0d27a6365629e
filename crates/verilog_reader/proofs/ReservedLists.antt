-- The reserved words, list by list.
use Rattle.std.proofs.Common.{◌≡◌, ℕ, Bool, true, false, List, [], ◌∷◌, ◌++◌, refl, ap, sym, ◌∙◌}
use Rattle.std.specs.Prelude.{◌||◌, nat_eq}
use Rattle.std.specs.List.{list_any}
use Rattle.std.specs.Cmp.Lexicographic.{pointwise}
use Rattle.psl_model.specs.Reserved.{language_words, left_out_words, verilog_words}
use Rattle.verilog_reader.specs.inner.Lines.{is_word}
use Rattle.verilog_reader.specs.inner.Words.{words_language_a, words_language_b, words_left_out_a, words_left_out_b}
use Rattle.verilog_reader.specs.inner.Words.{words_verilog_a, words_verilog_b, words_verilog_c, words_verilog_d}
use Rattle.verilog_reader.specs.inner.Words.{words_verilog_e}

or_assoc : (a b c : Bool) → ((a || b) || c) ≡ (a || (b || c))
or_assoc true b c = refl
or_assoc false b c = refl

pub any-append : {X : Type 0} (p : X → Bool) (xs ys : List X) → list_any p (xs ++ ys) ≡ (list_any p xs || list_any p ys)
any-append p [] ys = refl
any-append p (x ∷ xs) ys =
    ap (λ b. p x || b) (any-append p xs ys) ∙ sym (or_assoc (p x) (list_any p xs) (list_any p ys))

all_words : language_words ++ left_out_words ++ verilog_words
    ≡ ((((((((words_language_a) ++ words_language_b) ++ words_left_out_a) ++ words_left_out_b) ++ words_verilog_a)
    ++ words_verilog_b) ++ words_verilog_c) ++ words_verilog_d) ++ words_verilog_e
unfolding language_words left_out_words verilog_words words_language_a words_language_b words_left_out_a
    words_left_out_b words_verilog_a words_verilog_b words_verilog_c words_verilog_d words_verilog_e
all_words = refl

pub is_word_lists : (name : List ℕ) →
    is_word name
    ≡ (((((((((list_any (pointwise nat_eq name) words_language_a) || list_any (pointwise nat_eq name) words_language_b)
    || list_any (pointwise nat_eq name) words_left_out_a) || list_any (pointwise nat_eq name) words_left_out_b)
    || list_any (pointwise nat_eq name) words_verilog_a) || list_any (pointwise nat_eq name) words_verilog_b)
    || list_any (pointwise nat_eq name) words_verilog_c) || list_any (pointwise nat_eq name) words_verilog_d)
    || list_any (pointwise nat_eq name) words_verilog_e)
unfolding is_word
is_word_lists name =
    let p : List ℕ → Bool = pointwise nat_eq name in
    ap (list_any p) all_words
    ∙ any-append p
    ((((((((words_language_a) ++ words_language_b) ++ words_left_out_a) ++ words_left_out_b) ++ words_verilog_a)
    ++ words_verilog_b) ++ words_verilog_c) ++ words_verilog_d) words_verilog_e
    ∙ ap (λ (b : Bool). (b) || list_any p words_verilog_e)
    (any-append p
    (((((((words_language_a) ++ words_language_b) ++ words_left_out_a) ++ words_left_out_b) ++ words_verilog_a)
    ++ words_verilog_b) ++ words_verilog_c) words_verilog_d)
    ∙ ap (λ (b : Bool). ((b) || list_any p words_verilog_d) || list_any p words_verilog_e)
    (any-append p
    ((((((words_language_a) ++ words_language_b) ++ words_left_out_a) ++ words_left_out_b) ++ words_verilog_a)
    ++ words_verilog_b) words_verilog_c)
    ∙ ap (λ (b : Bool). (((b) || list_any p words_verilog_c) || list_any p words_verilog_d)
    || list_any p words_verilog_e)
    (any-append p (((((words_language_a) ++ words_language_b) ++ words_left_out_a) ++ words_left_out_b)
    ++ words_verilog_a) words_verilog_b)
    ∙ ap (λ (b : Bool). ((((b) || list_any p words_verilog_b) || list_any p words_verilog_c)
    || list_any p words_verilog_d) || list_any p words_verilog_e)
    (any-append p ((((words_language_a) ++ words_language_b) ++ words_left_out_a) ++ words_left_out_b)
    words_verilog_a)
    ∙ ap (λ (b : Bool).
    (((((b) || list_any p words_verilog_a) || list_any p words_verilog_b) || list_any p words_verilog_c)
    || list_any p words_verilog_d) || list_any p words_verilog_e)
    (any-append p (((words_language_a) ++ words_language_b) ++ words_left_out_a) words_left_out_b)
    ∙ ap (λ (b : Bool).
    ((((((b) || list_any p words_left_out_b) || list_any p words_verilog_a) || list_any p words_verilog_b)
    || list_any p words_verilog_c) || list_any p words_verilog_d) || list_any p words_verilog_e)
    (any-append p ((words_language_a) ++ words_language_b) words_left_out_a)
    ∙ ap (λ (b : Bool).
    (((((((b) || list_any p words_left_out_a) || list_any p words_left_out_b) || list_any p words_verilog_a)
    || list_any p words_verilog_b) || list_any p words_verilog_c) || list_any p words_verilog_d)
    || list_any p words_verilog_e) (any-append p (words_language_a) words_language_b)
