-- A sample of two layers: a library, an append of it, and an application that needs it.
use Rattle.std.specs.Prelude.{ℕ, List, [], ◌∷◌, ◌++◌, flat_map, codes}
use Rattle.meta_model.specs.declared.facts.TaskFacts.{TaskFacts}
use Rattle.meta_model.specs.declared.facts.TaskFacts.{TaskFacts}
use Rattle.meta_model.specs.Text.{newline}
use Rattle.load_model.specs.LoadSamples.{Files}

abbrev pub text : List (List ℕ) → List ℕ
text lines = flat_map (λ line. line ++ newline ∷ []) lines

-- conf/bblayers.conf
abbrev pub bblayers : List ℕ
bblayers = text ((codes "BBPATH = \"${TOPDIR}\"")
    ∷ (codes "BBLAYERS ?= \" \\")
    ∷ (codes "  meta \\")
    ∷ (codes "  meta-site \\")
    ∷ (codes "\"")
    ∷ [])

-- conf/layer.conf of both layers
abbrev pub layer_conf : List ℕ
layer_conf = text ((codes "BBPATH .= \":${LAYERDIR}\"")
    ∷ (codes "BBFILES += \"${LAYERDIR}/recipes-*/*/*.bb ${LAYERDIR}/recipes-*/*/*.bbappend\"")
    ∷ [])

-- meta/conf/bitbake.conf
abbrev pub bitbake_conf : List ℕ
bitbake_conf = text ((codes "OVERRIDES = \"linux:pn-${PN}\"")
    ∷ (codes "B = \"${WORKDIR}/build\"")
    ∷ (codes "D = \"${WORKDIR}/image\"")
    ∷ (codes "FILES:${PN} = \"/usr\"")
    ∷ [])

-- meta/classes/base.bbclass
abbrev pub base_class : List ℕ
base_class = text ((codes "addtask configure")
    ∷ (codes "addtask compile after do_configure")
    ∷ (codes "addtask install after do_compile")
    ∷ (codes "addtask populate_sysroot after do_install")
    ∷ (codes "addtask build after do_populate_sysroot")
    ∷ (codes "do_compile[deptask] = \"do_populate_sysroot\"")
    ∷ (codes "do_compile[dirs] = \"${B}\"")
    ∷ (codes "do_install[cleandirs] = \"${D}\"")
    ∷ (codes "do_populate_sysroot() {")
    ∷ (codes "    mkdir -p \"${WORKDIR}/sysroot\"")
    ∷ (codes "    cp -RP \"${D}/usr\" \"${WORKDIR}/sysroot/usr\"")
    ∷ (codes "}")
    ∷ (codes "SSTATETASKS += \"do_populate_sysroot\"")
    ∷ (codes "do_populate_sysroot[sstate-inputdirs] = \"${WORKDIR}/sysroot\"")
    ∷ (codes "do_populate_sysroot[sstate-outputdirs] = \".\"")
    ∷ (codes "do_build[noexec] = \"1\"")
    ∷ [])

-- meta/recipes-core/greet/greet_1.2.bb
abbrev pub greet : List ℕ
greet = text ((codes "TEXT = \"hello\"")
    ∷ (codes "do_compile() {")
    ∷ (codes "    echo \"${TEXT}\" > libgreet.txt")
    ∷ (codes "}")
    ∷ (codes "do_install() {")
    ∷ (codes "    mkdir -p \"${D}/usr/lib\"")
    ∷ (codes "    cp \"${B}/libgreet.txt\" \"${D}/usr/lib/libgreet.txt.1\"")
    ∷ (codes "    ln -s libgreet.txt.1 \"${D}/usr/lib/libgreet.txt\"")
    ∷ (codes "}")
    ∷ [])

-- meta-site/recipes-core/greet/greet_%.bbappend
abbrev pub greet_append : List ℕ
greet_append = text ((codes "TEXT:append = \" world\"")
    ∷ [])

-- meta/recipes-core/app/app_1.0.bb
abbrev pub app : List ℕ
app = text ((codes "DEPENDS = \"greet\"")
    ∷ (codes "do_compile() {")
    ∷ (codes "    cat \"${DEPSDIR}/greet/do_populate_sysroot/usr/lib/libgreet.txt\" > out.txt")
    ∷ (codes "}")
    ∷ (codes "do_install() {")
    ∷ (codes "    mkdir -p \"${D}/usr/share\"")
    ∷ (codes "    cp \"${B}/out.txt\" \"${D}/usr/share/out.txt\"")
    ∷ (codes "}")
    ∷ [])

abbrev pub library_and_application : Files
library_and_application = (codes "conf/bblayers.conf", bblayers)
    ∷ (codes "meta/conf/layer.conf", layer_conf)
    ∷ (codes "meta-site/conf/layer.conf", layer_conf)
    ∷ (codes "meta/conf/bitbake.conf", bitbake_conf)
    ∷ (codes "meta/classes/base.bbclass", base_class)
    ∷ (codes "meta/recipes-core/greet/greet_1.2.bb", greet)
    ∷ (codes "meta-site/recipes-core/greet/greet_%.bbappend", greet_append)
    ∷ (codes "meta/recipes-core/app/app_1.0.bb", app)
    ∷ []

-- what both recipes say of their tasks
abbrev pub sample_tasks : List TaskFacts
sample_tasks = record { task = (codes "do_build"); after = ((codes "do_populate_sysroot") ∷ []); depends = []; deptask = []; rdeptask = []; recrdeptask = [] }
    ∷ record { task = (codes "do_compile"); after = ((codes "do_configure") ∷ []); depends = []; deptask = ((codes "do_populate_sysroot") ∷ []); rdeptask = []; recrdeptask = [] }
    ∷ record { task = (codes "do_configure"); after = []; depends = []; deptask = []; rdeptask = []; recrdeptask = [] }
    ∷ record { task = (codes "do_install"); after = ((codes "do_compile") ∷ []); depends = []; deptask = []; rdeptask = []; recrdeptask = [] }
    ∷ record { task = (codes "do_populate_sysroot"); after = ((codes "do_install") ∷ []); depends = []; deptask = []; rdeptask = []; recrdeptask = [] } ∷ []
