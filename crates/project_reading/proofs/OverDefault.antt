-- The entries of a configuration that has a name, as the configuration of that name.
use Rattle.std.proofs.Common.{◌≡◌, ◌∙◌, ap, sym, subst, refl, ℕ, List, [], ◌∷◌, ◌++◌, Bool, true, false, true≢false, Result, Ok, Err, inl, inr, length, codes}
use Rattle.std.specs.Prelude.{◌≢◌, ◌==◌}
use Rattle.meta_model.specs.declared.entry.EntryLine.{EntryLine}
use Rattle.meta_model.specs.declared.event.Status.{Status}
use Rattle.load_model.specs.LoadRefusal.{◌>>=◌, LoadRefusal, refused_as}
use Rattle.load_model.specs.Loading.{Loaded, Sources, searched_entries}
use Rattle.load_model.specs.Layers.{Config, LayerRefusal, load, starting_with}
use Rattle.meta_model.specs.declared.entry.EntryLine.TheVariants.{Set}
use Rattle.meta_model.specs.declared.entry.Op.TheVariants.{Set as Assigned}
use Rattle.meta_model.specs.declared.line.Kind.TheVariants.{Conf}
use Rattle.answer_model.specs.Said.{layer_status}
use Rattle.multi_config.specs.Project.{named_over}
use Rattle.multi_config.specs.Reading.{before_file, config_file}
use Rattle.project_reading.specs.Answered.{IsRefusedAs}
use Rattle.project_reading.specs.Named.{entries_named}

abbrev with_lines : Config → List EntryLine → Config
with_lines made lines = record made { lines = lines }

-- the configuration of a name is the default one with those entries
over_is : (made : Config) (r : Result Loaded LoadRefusal)
    → refused_as layer_status (refused_as load r >>= λ loaded. let answer : Result Config LayerRefusal = Ok (record made { lines = loaded.lines }) in answer) ≡ ((refused_as layer_status (refused_as load r) >>= λ loaded. let answer : Result (List EntryLine) Status = Ok loaded.lines in answer) >>= λ lines. Ok (with_lines made lines))
over_is made (Ok loaded) = refl
over_is made (Err e) = refl

pub named_is : (sources : Sources) (name : List ℕ) (made : Config) → name ≢ [] → named_over sources name made ≡ (entries_named sources name made.lines >>= λ lines. Ok (with_lines made lines))
named_is sources [] made some = absurd (some refl)
named_is sources (c ∷ name) made some = over_is made (searched_entries sources Conf true (config_file (c ∷ name)) (before_file (c ∷ name) made))

-- a refusal of the first answer is one of the whole
pub refused_first : {A B : Type 0} (status : Status) (m : Result A Status) (f : A → Result B Status) → IsRefusedAs status m → IsRefusedAs status (m >>= f)
refused_first status m f (inl out) = inl out
refused_first status m f (inr (inl read)) = inr (inl read)
refused_first status m f (inr (inr e)) = inr (inr (ap (λ k. k >>= f) e))

-- what the file at a path gives behind what was read
abbrev pub read_at : Sources → List ℕ → Loaded → Result Loaded Status
read_at sources path before = refused_as layer_status (refused_as load (searched_entries sources Conf true path before))

abbrev lines_of : Loaded → Result (List EntryLine) Status
lines_of loaded = Ok loaded.lines

abbrev start_of : List ℕ → List EntryLine → Loaded
start_of name lines = starting_with (lines ++ Set (codes "BB_CURRENT_MC") Assigned name ∷ [])

pub named_ok : (sources : Sources) (name path : List ℕ) (lines raw : List EntryLine) (before made : Loaded) → path ≡ config_file name → before ≡ start_of name lines → read_at sources path before ≡ Ok made → raw ≡ made.lines → entries_named sources name lines ≡ Ok raw
named_ok sources name path lines raw before made p b read is =
    let at : read_at sources path before ≡ read_at sources (config_file name) (start_of name lines) = λ i. read_at sources (p i) (b i) in
    ap (λ r. r >>= lines_of) (sym at ∙ read) ∙ ap (λ (l : List EntryLine). let answer : Result (List EntryLine) Status = Ok l in answer) (sym is)

pub named_err : (sources : Sources) (name path : List ℕ) (lines : List EntryLine) (before : Loaded) (status : Status) → path ≡ config_file name → before ≡ start_of name lines → IsRefusedAs status (read_at sources path before) → IsRefusedAs status (entries_named sources name lines)
named_err sources name path lines before status p b refused =
    let at : read_at sources path before ≡ read_at sources (config_file name) (start_of name lines) = λ i. read_at sources (p i) (b i) in
    refused_first status (read_at sources (config_file name) (start_of name lines)) lines_of (subst (λ (r : Result Loaded Status). IsRefusedAs status r) at refused)

abbrev answer_of : Config → List EntryLine → Result Config Status
answer_of made lines = Ok (with_lines made lines)

pub over_ok : (sources : Sources) (name : List ℕ) (made : Config) (lines : List EntryLine) → name ≢ [] → entries_named sources name made.lines ≡ Ok lines → named_over sources name made ≡ Ok (with_lines made lines)
over_ok sources name made lines some read = named_is sources name made some ∙ ap (λ r. r >>= answer_of made) read

pub over_err : (sources : Sources) (name : List ℕ) (made : Config) (status : Status) → name ≢ [] → IsRefusedAs status (entries_named sources name made.lines) → IsRefusedAs status (named_over sources name made)
over_err sources name made status some refused =
    subst (λ (r : Result Config Status). IsRefusedAs status r) (sym (named_is sources name made some)) (refused_first status (entries_named sources name made.lines) (answer_of made) refused)

-- a text that isn't empty
pub some_of : (name : List ℕ) (b : Bool) → b ≡ (length name == 0) → b ≡ false → name ≢ []
some_of [] b is none e = true≢false (sym is ∙ none)
some_of (c ∷ name) b is none e = absurd cc
