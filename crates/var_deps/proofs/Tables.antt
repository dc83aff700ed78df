-- What names lead to, as it is kept.
use Rattle.std.proofs.Common.{◌≡◌, refl, ◌∙◌, ap, ℕ, Bool, List, ◌++◌, Result, Ok, Err, bytes_eq, codes}
use Rattle.meta_model.specs.Refusal.{Refusal, ◌>>=◌}
use Rattle.task_model.specs.Leads.{View, leads, by_value, by_flags, flag_words, without}
use Rattle.task_model.specs.Keys.{line_of}
use Rattle.task_model.proofs.Agree.{bind_same}
use Rattle.var_deps.specs.Reading.{led_behind, line_behind}
use Rattle.var_deps.specs.Known.{read_led, read_line}

abbrev pub Names : Type 0
Names = List (List ℕ)

-- what is read of a name once is what it leads to

parts_apart : (ignored : Names) (v f d e : Result Names Refusal)
    → (v >>= λ value. f >>= λ flags. d >>= λ deps. e >>= λ excluded. Ok (without (ignored ++ excluded) (value ++ (flags ++ deps))))
    ≡ ((v >>= λ value. f >>= λ flags. d >>= λ deps. Ok (value ++ (flags ++ deps))) >>= λ all. e >>= λ excluded. Ok (without (ignored ++ excluded) all))
parts_apart ignored (Ok v) (Ok f) (Ok d) e = refl
parts_apart ignored (Ok v) (Ok f) (Err refusal) e = refl
parts_apart ignored (Ok v) (Err refusal) d e = refl
parts_apart ignored (Err refusal) f d e = refl

pub leads_read : (view : View) (own : Bool) (name : List ℕ) → bytes_eq name view.task ≡ own → leads view name ≡ read_led view own name
leads_read view own name e =
    rw e (bind_same (view.find.at name) (view.find.at name) _ _ refl (λ found h. parts_apart view.ignored (by_value view name found) (by_flags view own) (flag_words view name (codes "vardeps")) (flag_words view name (codes "vardepsexclude"))))

pub found_once : {A B C : Type 0} (m : Result A Refusal) (l : A → Result B Refusal) (k : A → B → Result C Refusal) → ((m >>= l) >>= λ led. m >>= λ found. k found led) ≡ (m >>= λ found. l found >>= λ led. k found led)
found_once (Ok a) l k = refl
found_once (Err refusal) l k = refl

pub line_read : (view : View) (own : Bool) (name : List ℕ) → bytes_eq name view.task ≡ own → line_of view name ≡ read_line view own name
line_read view own name e =
    ap (λ m. m >>= λ led. view.find.at name >>= λ found. line_behind view (bytes_eq name view.task) name found led) (leads_read view own name e)
    ∙ ap (λ b. read_led view own name >>= λ led. view.find.at name >>= λ found. line_behind view b name found led) e
    ∙ found_once (view.find.at name) (led_behind view own name) (line_behind view own name)
